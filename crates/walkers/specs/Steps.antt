-- What one step of a walker gives. Assumes nothing: these are definitions.
use Rattle.std.specs.Prelude.{ℕ, ◌+◌, Bool, cond, ◌||◌, List, ltb, length, Result, Ok, Err}
use Rattle.bits.specs.Word.{bit}
use Rattle.definitions.specs.Definition2.{letter_count}
use Rattle.definitions.specs.Numbers.{short_slice_number, bad_letter_number, full_count_number}
use Rattle.automata.specs.Table.{table_entries}
use Rattle.steps.specs.Moves.{advanced, meets}
use Rattle.walkers.specs.declared.Walker.{Walker}
use Rattle.walkers.specs.declared.Refusal.{Refusal}
use Rattle.walkers.specs.declared.Step.{Step}
use Rattle.walkers.specs.Refusals.{number, place}

-- the largest count of letters that 32 bits hold
abbrev pub largest_count : ℕ
largest_count = 4294967295

-- a walker at the states of the set, with its finals; the letters that it has taken, those at its first match, and whether there is one
abbrev pub walker_at : ℕ → ℕ → ℕ → ℕ → Bool → Walker
walker_at set finals taken first matched = record { set = set; finals = finals; taken = taken; first = first; matched = matched }

-- a walker starts at {0} with no letter taken; if 0 is final it has matched, at 0
abbrev pub start_of : ℕ → Walker
start_of finals = walker_at 1 finals 0 0 (bit finals 0)

-- an answer in the paper's terms: whether it matches, or a refusal's number and place
pub data Reply : Type 0 where
  flag : Bool → Reply
  refusal : ℕ → ℕ → Reply

abbrev pub reply_of : Result Bool Refusal → Reply
reply_of (Ok b) = flag b
reply_of (Err x) = refusal (number x) (place x)

-- what a step tells: the walker, and the answer in the paper's terms
pub record Told : Type 0 where
  pub walker : Walker
  pub says : Reply

abbrev pub told : Step → Told
told s = record { walker = s.walker; says = reply_of s.answer }

-- the step that gives back this walker and says this, as one that was lent tells it
abbrev pub given : Walker → Result Bool Refusal → Step
given w a = record { walker = w; answer = a }

-- the walker after one more letter, which led it to the set: the count is one more, and the first match is this one only if there was none
abbrev pub led_to_of : Walker → ℕ → Walker
led_to_of w set =
    walker_at set w.finals (w.taken + 1)
    (cond w.matched w.first (cond (meets set w.finals) (w.taken + 1) w.first))
    (w.matched || meets set w.finals)

-- the walker moved by the letter x, and whether a final is in its set
abbrev pub moved_by : List ℕ → Walker → ℕ → Told
moved_by t w x = record {
  walker = led_to_of w (advanced t w.set x);
  says = flag (meets (advanced t w.set x) w.finals);
}

-- a refusal gives the walker back as it came
abbrev pub refused_as : Walker → ℕ → ℕ → Told
refused_as w n p = record { walker = w; says = refusal n p }

-- one step over whatever table is lent
unfoldable pub step_of : List ℕ → Walker → ℕ → Told
step_of t w x =
    cond (ltb (length t) table_entries) (refused_as w short_slice_number 0)
    (cond (ltb x letter_count)
    (cond (ltb w.taken largest_count) (moved_by t w x) (refused_as w full_count_number 0))
    (refused_as w bad_letter_number 0))
