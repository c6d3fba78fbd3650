-- Request 2026-08, models given by formulas: what is written is a model, state x has letter x, and its initial states and successors are what the two formulas say of
-- this state and the next; a refusal changes nothing, and one answer fits. The request's limits stand here as numbers. Assumes nothing: these are definitions.
use Rattle.std.specs.Prelude.{ℕ, ◌+◌, ◌*◌, ◌<◌, ◌≤◌, ◌≡◌, ◌↔◌, true, false, List, [], ◌∷◌, ◌++◌, length, take, drop}
use Rattle.bits.specs.Word.{bit}
use Rattle.definitions.specs.declared.kinds.Junction.TheVariants.{And, Or}
use Rattle.definitions.specs.Definition1.{Formula, prop, yea, nay, neg, join}
use Rattle.definitions.specs.Definition2.{holds}
use Rattle.std.specs.Prelude as std
use Rattle.systems.specs.declared.Refusal as system-refusal
use Rattle.systems.specs.Spelling as systems
use Rattle.systems.specs.Answer as reader
use Rattle.systems.specs.Faults.{SystemFault}
use Rattle.formula_models.specs.declared.Refusal as formula-refusal
use Rattle.formula_models.specs.Answer.{Result, written, refused, told, FormulasRight}
use Rattle.demands.specs.Terms.{IsModel, model_in_of}

-- the bytes are those of f and g, in which every variable is one of the six, and no more than 255
pub record TwoFormulas (s : List ℕ) (f g : Formula) : Type 0 where
  pub spelt : systems.Spells s f g
  pub short : length s ≤ 255

-- the request's bytes, written out once more: a mark or a kind that moves is seen here
pub record SystemBytes : Type 0 where
  pub is_system : (f g : Formula) → systems.spell f g ≡ 0x30 ∷ (systems.spell_f f ++ (0x31 ∷ systems.spell_f g))
  pub is_now : (i : ℕ) → i ≤ 5 → systems.spell_f (prop i) ≡ 0x01 ∷ i ∷ []
  pub is_next : (i : ℕ) → systems.spell_f (prop (6 + i)) ≡ 0x07 ∷ i ∷ []
  pub is_true : systems.spell_f yea ≡ 0x02 ∷ []
  pub is_false : systems.spell_f nay ≡ 0x03 ∷ []
  pub is_not : (f : Formula) → systems.spell_f (neg f) ≡ 0x04 ∷ systems.spell_f f
  pub is_and : (f g : Formula) → systems.spell_f (join And f g) ≡ 0x05 ∷ (systems.spell_f f ++ systems.spell_f g)
  pub is_or : (f g : Formula) → systems.spell_f (join Or f g) ≡ 0x06 ∷ (systems.spell_f f ++ systems.spell_f g)
  -- the first formula has variables of this state alone, the second of both
  pub of_this_state : (i : ℕ) → systems.SmallF false (prop i) ↔ (i ≤ 5)
  pub of_both_states : (i : ℕ) → systems.SmallF true (prop i) ↔ (i ≤ 11)

-- no other two formulas have these bytes
abbrev pub OneReading : Type 0
OneReading = (s : List ℕ) (f g f' g' : Formula) → TwoFormulas s f g → TwoFormulas s f' g' → (f ≡ f') × (g ≡ g')

-- in the number x + 64y variable i of this state is proposition i, and that of the next is proposition 6 + i
abbrev pub VariablesOfBoth : Type 0
VariablesOfBoth = (x y i : ℕ) → x < 64 → i ≤ 5 → (holds (prop i) (x + 64 * y) ≡ bit x i) × (holds (prop (6 + i)) (x + 64 * y) ≡ bit y i)

-- the call answered so for the bytes s and the slice b, which is a after it
abbrev pub Reads : (s b a : List ℕ) → Result → Type 0
Reads = FormulasRight

-- written exactly if the bytes are two formulas' and the slice has room for 64 records
abbrev pub WrittenExactly : Type 0
WrittenExactly = (s b a : List ℕ) (x : Result) → Reads s b a x → (x ≡ written) ↔ (((f : Formula) × (g : Formula) × TwoFormulas s f g) × (704 ≤ length b))

-- the first 704 bytes are a model: 64 states, state x has letter x, and f and g say which are initial and which follow
pub record SaidBy (a : List ℕ) (f g : Formula) : Type 0 where
  pub accepted : IsModel (take 704 a)
  pub states : (model_in_of (take 704 a)).states ≡ 64
  pub letter : (x : ℕ) → x < 64 → (model_in_of (take 704 a)).letter x ≡ x
  pub initial : (x : ℕ) → x < 64 → ((model_in_of (take 704 a)).initial x ≡ true) ↔ (holds f x ≡ true)
  pub next : (x y : ℕ) → x < 64 → y < 64 → ((model_in_of (take 704 a)).next x y ≡ true) ↔ (holds g (x + 64 * y) ≡ true)

abbrev pub ModelIsSaid : Type 0
ModelIsSaid = (s b a : List ℕ) (f g : Formula) → TwoFormulas s f g → Reads s b a written → SaidBy a f g

-- bytes past 704 are as they were, and so are all after a refusal
abbrev pub PastAsItWas : Type 0
PastAsItWas = (s b a : List ℕ) → Reads s b a written → (length a ≡ length b) × (drop 704 a ≡ drop 704 b)

abbrev pub RefusedFormulasKeep : Type 0
RefusedFormulasKeep = (s b a : List ℕ) (n p : ℕ) → Reads s b a (refused n p) → a ≡ b

-- the refusals: 9 and 2 to 6 where the lines of a system say, and 21 last, of bytes that are two formulas'
pub data FormulasFault (s b : List ℕ) : ℕ → ℕ → Type 0 where
  of_system : {n p : ℕ} → SystemFault s n p → FormulasFault s b n p
  short_slice : (f g : Formula) → TwoFormulas s f g → length b < 704 → FormulasFault s b 21 0

abbrev pub FormulasRefusedExactly : Type 0
FormulasRefusedExactly = (s b a : List ℕ) (x : Result) (n p : ℕ) → Reads s b a x → (x ≡ refused n p) ↔ FormulasFault s b n p

-- no second answer fits, and no second content of the slice
abbrev pub OneFormulas : Type 0
OneFormulas = (s b a a' : List ℕ) (x y : std.Result std.⊤ formula-refusal.Refusal) → Reads s b a (told x) → Reads s b a' (told y) → (x ≡ y) × (a ≡ a')

-- and none of the call that only reads
abbrev pub OneSystem : Type 0
OneSystem = (s : List ℕ) (a b : std.Result ℕ system-refusal.Refusal) → reader.told a ≡ reader.answer s → reader.told b ≡ reader.answer s → a ≡ b

pub record FormulaModels : Type 0 where
  pub system_bytes : SystemBytes
  pub one_reading : OneReading
  pub variables_of_both : VariablesOfBoth
  pub written_exactly : WrittenExactly
  pub model_is_said : ModelIsSaid
  pub past_as_it_was : PastAsItWas
  pub refused_formulas_keep : RefusedFormulasKeep
  pub formulas_refused_exactly : FormulasRefusedExactly
  pub one_formulas : OneFormulas
  pub one_system : OneSystem
