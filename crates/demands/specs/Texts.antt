-- Request 2026-01, rules as text: a text has one reading, what is accepted is exactly the grammar's within the limits, and reading and writing undo each other.
-- The grammar is `text`, a line for each form. The paper's limits stand as numbers. Assumes nothing: these are definitions.
use Rattle.std.specs.Prelude.{ℕ, ◌*◌, ◌≤◌, ◌<◌, ◌≡◌, ◌↔◌, List, ◌++◌, length, take, drop}
use Rattle.rules.specs.declared.Known.{Known}
use Rattle.definitions.specs.Definition1.{Rule}
use Rattle.rules.specs.Weight.{weight_of}
use Rattle.definitions.specs.Encoding.{spell, Small}
use Rattle.rules.specs.Answer.{known_of}
use Rattle.rules.specs.Faults.{RuleFault}
use Rattle.texts.specs.Answer.{TextAnswer}
use Rattle.grammar.specs.Text.{text}
use Rattle.texts.specs.Sharing.{IsText, Shares}
use Rattle.texts.specs.Answer.{Result, given, refused, told, ReadRight, WriteRight}
use Rattle.texts.specs.Strings.{broken_texts, AllShared}
use Rattle.text_lines.specs.Line.{LineOf, LineRight}
use Rattle.demands.specs.Terms.{Spells}

-- the string is the text of a rule within the limits
pub record TextOf (s : List ℕ) (r : Rule) : Type 0 where
  pub is_text : IsText s r
  pub short : length s ≤ 1280
  pub few_bytes : length (spell r) ≤ 255
  pub light : weight_of r ≤ 64

-- the output begins with the part, of n bytes, and is as it was past it
pub record Holds (part before after : List ℕ) (n : ℕ) : Type 0 where
  pub room : length part ≤ length before
  pub count : n ≡ length part
  pub content : after ≡ part ++ drop n before

-- ---- what is accepted

-- what reading a text of the grammar into an output with room comes to
pub record ReadAs (s before after : List ℕ) (n : ℕ) (k : Known) (r : Rule) : Type 0 where
  pub text_of : TextOf s r
  pub holds : Holds (spell r) before after n
  pub known : k ≡ known_of r

-- accepted texts are exactly the grammar's within the limits, and their rule's bytes are written
abbrev pub AcceptedAreTexts : Type 0
AcceptedAreTexts = (s before after : List ℕ) (n : ℕ) (k : Known) → ReadRight s before after (given n k) → (r : Rule) × ReadAs s before after n k r

abbrev pub TextsAreAccepted : Type 0
TextsAreAccepted = (s before after : List ℕ) (x : Result) (r : Rule) → TextOf s r → length (spell r) ≤ length before → ReadRight s before after x
    → x ≡ given (length (spell r)) (known_of r)

-- what writing comes to: the bytes are a rule's, and its text is written
pub record WrittenAs (s before after : List ℕ) (n : ℕ) (k : Known) (r : Rule) : Type 0 where
  pub spelt : Spells s r
  pub holds : Holds (text r) before after n
  pub known : k ≡ known_of r

abbrev pub WrittenAreTexts : Type 0
WrittenAreTexts = (s before after : List ℕ) (n : ℕ) (k : Known) → WriteRight s before after (given n k) → (r : Rule) × WrittenAs s before after n k r

abbrev pub RulesAreWritten : Type 0
RulesAreWritten = (s before after : List ℕ) (x : Result) (r : Rule) → Spells s r → length (text r) ≤ length before → WriteRight s before after x
    → x ≡ given (length (text r)) (known_of r)

-- a text has one reading
abbrev pub OneReading : Type 0
OneReading = (r r' : Rule) → Small r → Small r' → text r ≡ text r' → r ≡ r'

-- ---- back and forth

-- what was written reads back as the same bytes, with the same known of the rule
abbrev pub ReadsBack : Type 0
ReadsBack = (s before after : List ℕ) (n : ℕ) (k : Known) → WriteRight s before after (given n k)
    → (out out' : List ℕ) (x : Result) → length s ≤ length out → ReadRight (take n after) out out' x → (x ≡ given (length s) k) × Holds s out out' (length s)

-- what was read writes back as the same text
abbrev pub WritesBack : Type 0
WritesBack = (s before after : List ℕ) (n : ℕ) (k : Known) → ReadRight s before after (given n k)
    → (out out' : List ℕ) (x : Result) → length s ≤ length out → WriteRight (take n after) out out' x → (x ≡ given (length s) k) × Holds s out out' (length s)

-- a written text has at most 5 characters for each byte, so that it is never too long to be read
abbrev pub FiveForAByte : Type 0
FiveForAByte = (s before after : List ℕ) (n : ℕ) (k : Known) → WriteRight s before after (given n k) → (n ≤ 5 * length s) × (n ≤ 1280)

-- ---- refusals

-- reading s into the output: its refusals in their order
pub data ReadFault (s out : List ℕ) : ℕ → ℕ → Type 0 where
  too_long : 1280 < length s → ReadFault s out 30 0
  no_text : {p : ℕ} → length s ≤ 1280 → ((r : Rule) → IsText s r → ⊥) → Shares s p → ReadFault s out 31 p
  many_bytes : (r : Rule) → length s ≤ 1280 → IsText s r → 255 < length (spell r) → ReadFault s out 1 0
  too_heavy : (r : Rule) → length s ≤ 1280 → IsText s r → length (spell r) ≤ 255 → 64 < weight_of r → ReadFault s out 7 0
  short_output : (r : Rule) → TextOf s r → length out < length (spell r) → ReadFault s out 32 0

-- writing the text of s: the rule's own refusals, then 32
pub data WriteFault (s out : List ℕ) : ℕ → ℕ → Type 0 where
  of_rule : {n p : ℕ} → RuleFault s n p → WriteFault s out n p
  short_output : (r : Rule) → Spells s r → length out < length (text r) → WriteFault s out 32 0

abbrev pub ReadRefusedExactly : Type 0
ReadRefusedExactly = (s before after : List ℕ) (x : Result) (n p : ℕ) → ReadRight s before after x → (x ≡ refused n p) ↔ ReadFault s before n p

abbrev pub WriteRefusedExactly : Type 0
WriteRefusedExactly = (s before after : List ℕ) (x : Result) (n p : ℕ) → WriteRight s before after x → (x ≡ refused n p) ↔ WriteFault s before n p

-- a refusal leaves the output as it was
abbrev pub RefusedReadKeeps : Type 0
RefusedReadKeeps = (s before after : List ℕ) (n p : ℕ) → ReadRight s before after (refused n p) → after ≡ before

abbrev pub RefusedWriteKeeps : Type 0
RefusedWriteKeeps = (s before after : List ℕ) (n p : ℕ) → WriteRight s before after (refused n p) → after ≡ before

-- ---- ruletext

-- the line of an input is that of its first 1,282 bytes
abbrev pub FirstBytesDecide : Type 0
FirstBytesDecide = (input line : List ℕ) → LineOf (take 1282 input) line → LineOf input line

-- ---- one answer

abbrev pub OneRead : Type 0
OneRead = (s before u v : List ℕ) (a b : TextAnswer) → ReadRight s before u (told a) → ReadRight s before v (told b) → (a ≡ b) × (u ≡ v)

abbrev pub OneWrite : Type 0
OneWrite = (s before u v : List ℕ) (a b : TextAnswer) → WriteRight s before u (told a) → WriteRight s before v (told b) → (a ≡ b) × (u ≡ v)

abbrev pub OneTextLine : Type 0
OneTextLine = (input before u v : List ℕ) (m n : ℕ) → LineRight input before u m → LineRight input before v n → (m ≡ n) × (u ≡ v)

pub record Texts : Type 0 where
  pub accepted_are_texts : AcceptedAreTexts
  pub texts_are_accepted : TextsAreAccepted
  pub written_are_texts : WrittenAreTexts
  pub rules_are_written : RulesAreWritten
  pub one_reading : OneReading
  pub reads_back : ReadsBack
  pub writes_back : WritesBack
  pub five_for_a_byte : FiveForAByte
  pub read_refused_exactly : ReadRefusedExactly
  pub write_refused_exactly : WriteRefusedExactly
  pub refused_read_keeps : RefusedReadKeeps
  pub refused_write_keeps : RefusedWriteKeeps
  pub one_read : OneRead
  pub one_write : OneWrite
  pub first_bytes_decide : FirstBytesDecide
  pub one_text_line : OneTextLine
  -- eighteen strings that are no text, each with the length of the longest beginning that some rule text shares
  pub places_held : AllShared broken_texts
