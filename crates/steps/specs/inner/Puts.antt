-- What the loops that fill rows add to them. Assumes nothing: these are definitions.
use Rattle.std.specs.Prelude.{ℕ, ◌+◌, ◌*◌, ◌≡◌, ◌⊎◌, List, T, length, get_or}
use Rattle.std.specs.Int.Bits.{bit_and}
use Rattle.bits.specs.Word.{bit, insert}
use Rattle.bits.specs.Sets.{In, Over, Below}
use Rattle.automata.specs.Table.{table_states, cell}

-- from the array of sets a to b: what S says is added, nothing is lost
pub record Adds (a b : List ℕ) (S : ℕ → ℕ → Type 0) : Type 0 where
  pub size : length b ≡ length a
  pub only : (i k : ℕ) → T (bit (get_or b i 0) k) → T (bit (get_or a i 0) k) ⊎ S i k
  pub kept : (i k : ℕ) → T (bit (get_or a i 0) k) → T (bit (get_or b i 0) k)
  pub all : (i k : ℕ) → S i k → T (bit (get_or b i 0) k)

-- bit q is added at 64·x + p for the letters x of the label from p to q that are used
abbrev pub Puts : List ℕ → ℕ → ℕ → ℕ → ℕ → ℕ → Type 0
Puts table used p q i k = Over (In (bit_and (cell table p q) used)) (λ x. (i ≡ table_states * x + p) × (k ≡ q))

-- the same for every q below n, and for every p and q below n
abbrev pub RowPuts : List ℕ → ℕ → ℕ → ℕ → ℕ → ℕ → Type 0
RowPuts table n used p i k = Below (λ q i. Puts table used p q i k) n i

abbrev pub AllPuts : List ℕ → ℕ → ℕ → ℕ → ℕ → Type 0
AllPuts table n used i k = Below (λ p i. RowPuts table n used p i k) n i

-- the members of `to` are added at 64·x + p for the letters x of the label
abbrev pub Scatters : ℕ → ℕ → ℕ → ℕ → ℕ → Type 0
Scatters p to label i k = Over (In label) (λ x. i ≡ table_states * x + p) × In to k

-- from a to b what U says is added, but for what P says and is still owed
pub record Owes (a b : List ℕ) (P U : ℕ → ℕ → Type 0) : Type 0 where
  pub size : length b ≡ length a
  pub only : (i k : ℕ) → T (bit (get_or b i 0) k) → T (bit (get_or a i 0) k) ⊎ U i k
  pub kept : (i k : ℕ) → T (bit (get_or a i 0) k) → T (bit (get_or b i 0) k)
  pub all : (i k : ℕ) → U i k → T (bit (get_or b i 0) k) ⊎ P i k
  pub owed : (i k : ℕ) → P i k → U i k

-- one label more, w from p to q: there is none, or it is the one that is owed already, or that one is paid and this is owed
pub data Extended (p q w label to label' to' : ℕ) (b c : List ℕ) : Type 0 where
  nothing : w ≡ 0 → label' ≡ label → to' ≡ to → c ≡ b → Extended p q w label to label' to' b c
  longer : w ≡ label → label' ≡ label → to' ≡ insert to q → c ≡ b → Extended p q w label to label' to' b c
  other : Adds b c (Scatters p to label) → label' ≡ w → to' ≡ insert 0 q → Extended p q w label to label' to' b c
