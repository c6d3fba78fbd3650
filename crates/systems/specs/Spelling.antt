-- The bytes that spell a system: 30, a formula, 31, a formula in which 07 i stands for proposition 6 + i. Assumes nothing: these are definitions.
use Rattle.std.specs.Prelude.{ℕ, ◌+◌, ◌-◌, ◌≤◌, ◌≡◌, Bool, true, false, cond, List, [], ◌∷◌, ◌++◌, leb}
use Rattle.definitions.specs.Definition1.{Formula, prop, yea, nay, neg, join}
use Rattle.definitions.specs.Encoding.{junction_byte}
use Rattle.systems.specs.Kinds.{initial_mark, step_mark, next_kind}
use Rattle.systems.specs.Reading.{last_variable, variable_count}

-- the last proposition that a formula may name, which may speak of the next state or not
abbrev pub last_named : Bool → ℕ
last_named true = variable_count + last_variable
last_named false = last_variable

abbrev pub spell_variable : ℕ → List ℕ
spell_variable i = cond (leb i last_variable) (0x01 ∷ i ∷ []) (next_kind ∷ (i - variable_count) ∷ [])

abbrev pub spell_f : Formula → List ℕ
spell_f (prop i) = spell_variable i
spell_f yea = 0x02 ∷ []
spell_f nay = 0x03 ∷ []
spell_f (neg f) = 0x04 ∷ spell_f f
spell_f (join j f g) = junction_byte j ∷ (spell_f f ++ spell_f g)

-- every variable that is named is one of those that there are
abbrev pub SmallF : Bool → Formula → Type 0
SmallF next (prop i) = i ≤ last_named next
SmallF next yea = Unit {0}
SmallF next nay = Unit {0}
SmallF next (neg f) = SmallF next f
SmallF next (join j f g) = SmallF next f × SmallF next g

abbrev pub spell : Formula → Formula → List ℕ
spell f g = initial_mark ∷ (spell_f f ++ (step_mark ∷ spell_f g))

-- the bytes spell the system of f and g
pub record Spells (s : List ℕ) (f g : Formula) : Type 0 where
  pub whole : s ≡ spell f g
  pub small_first : SmallF false f
  pub small_step : SmallF true g
