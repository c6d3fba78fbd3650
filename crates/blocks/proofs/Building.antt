-- Laws for the walk that fills a table: what the kind byte tells of the rule at a place, and how its operands' blocks come to stand side by side. Assumes nothing.
use Prim.Native.Nat.{ℕ, ◌+◌, ◌<◌, ◌≤◌}
use native.Mathlib.Omega.{arith}
use mathlib.Core.Path.{◌≡◌, refl, sym, subst}
use mathlib.Core.List.{List}
use lib.ListN.{length, get_or}
use Rattle.std.specs.Prelude.{Option, Some, None}
use Rattle.definitions.specs.declared.kinds.Pair.{Pair}
use Rattle.definitions.specs.declared.kinds.Repeat.{Repeat}
use Rattle.definitions.specs.declared.kinds.RuleKind.TheVariants.{Letter, Empty, Two, Again, Counted, Occurs}
use Rattle.definitions.specs.declared.kinds.Kind.TheVariants.{OfRule}
use Rattle.definitions.specs.Definition1.{Rule, two, counted, occurs}
use Rattle.definitions.specs.Kinds.{kind_of}
use Rattle.rules.specs.Places.{RuleAt}
use Rattle.formulas.specs.declared.Labelled.{Labelled}
use Rattle.definitions.specs.declared.counts.Counts.{Counts}
use Rattle.definitions.specs.Encoding.{CountsAs}
use Rattle.formulas.specs.Labels.{LabelledAs}
use Rattle.rules.specs.Weight.{weight_of, pair_weight, weight_limit}
use Rattle.rules.proofs.Scan.{rule_ends}
use Rattle.rules.proofs.PlacesOnce.{rule_of_lem, rule_once}
use Rattle.rules.proofs.Walks.{told_counts}
use Rattle.rules.proofs.Weighing.{weight_pos}
use Rattle.automata.specs.declared.shape.Shape.{Shape}
use Rattle.automata.specs.Table.{table_states, table_entries}
use Rattle.automata.specs.inner.Cells.{Put, Clean}
use Rattle.automata.specs.inner.Block.{Built, Beside}
use Rattle.automata.specs.inner.Shapes.{Fits, ShapeOf, ShapedAs}
use Rattle.blocks.specs.inner.Building.{Ready, BuiltAt, Room, Joins, Repeats, RowOf, TallyOf, Placed, PlacedAt, nowhere, from, operands_from}
use Rattle.automata.proofs.Shaping.{pair_weights}
use Rattle.automata.proofs.Places.{beside, built_at, clean_on}
use Rattle.blocks.proofs.Singles.{empty_built, letter_built}
use Rattle.blocks.proofs.Rowing.{none_built}

pub ready_on : (t t₁ : List ℕ) (base mid : ℕ) (r : Rule) → Ready t base → length t₁ ≡ length t → Built t t₁ base r → base + weight_of r ≤ mid → Ready t₁ mid
ready_on t t₁ base mid r y e b l = record { long = omega (arith, y.long); clean = clean_on t t₁ base mid r y.clean b l }

pub ready_up : (t : List ℕ) (base mid : ℕ) → Ready t base → base ≤ mid → Ready t mid
ready_up t base mid r l = record { long = r.long; clean = record { none = λ p q h₁ h₂ h₃ h₄. r.clean.none p q (omega arith) h₂ (omega arith) h₄ } }

-- the place that an operator has for its operands
placed_from : (p : Pair) (base m n lo : ℕ) → Placed p base m n (Some lo) → (lo ≡ operands_from p base) × (base ≤ lo) × (lo + (m + n) ≤ base + pair_weight p m n)
placed_from p base m n lo (from l e b h) = (e, b, h)

placed_nowhere : (p : Pair) (base m n : ℕ) → Placed p base m n None → (t : List ℕ) (x y : Rule) → Clean t base → m ≡ weight_of x → n ≡ weight_of y → Built t t base (two p x y)
placed_nowhere p base m n (nowhere h) = h

-- ---- a rule by its kind

module _ (s : List ℕ) (at base : ℕ) (g : Fits s at base) where
  pub base_small : base < table_states
  base_small = omega (arith, g.room, weight_pos g.rule)

  pub fits_zero : Fits s at 0
  fits_zero = record { rule = g.rule; past = g.past; stands = g.stands; room = omega (arith, g.room) }

  pub shape_room : (h : Shape) → ShapedAs s at h → (0 < h.weight) × (base + h.weight ≤ table_states)
  shape_room h u = let o = u.told g.rule g.past g.stands in (omega (arith, o.weighs, weight_pos g.rule), omega (arith, o.weighs, g.room))

  pub letter_room : kind_of (get_or s at 0) ≡ OfRule Letter → base + 2 ≤ table_states
  letter_room q = let i = rule_of_lem s (OfRule Letter) g.stands q in rw i.1 at g.room

  pub letter_done : kind_of (get_or s at 0) ≡ OfRule Letter → (t t₁ : List ℕ) (l : Labelled) → Ready t base → LabelledAs s (at + 1) l
      → Put t t₁ base (base + 1) (base + 1) (base + 1 + 1) (λ p q. l.label) → BuiltAt s at t t₁ base
  letter_done q t t₁ l y is put = record {
    built = λ x z d.
        let i = rule_of_lem s (OfRule Letter) d q in
        let e : base + 1 + 1 ≡ base + 2 = omega arith in
        rw i.1 (letter_built t t₁ base l.label i.0 y.clean (letter_room q) (is i.0 z i.2).0 (rw e at put));
  }

  pub empty_done : kind_of (get_or s at 0) ≡ OfRule Empty → (t : List ℕ) → Ready t base → BuiltAt s at t t base
  empty_done q t y = record {
    built = λ x z d. let i = rule_of_lem s (OfRule Empty) d q in rw i.0 (empty_built t base y.clean (omega (arith, base_small)));
  }

  pub again_step : (p : Repeat) → kind_of (get_or s at 0) ≡ OfRule (Again p) → (h : Shape) → ShapedAs s (at + 1) h → (t t₁ t₂ : List ℕ)
      → BuiltAt s (at + 1) t t₁ base → Repeats h t₁ t₂ base → BuiltAt s at t t₂ base
  again_step p q h u t t₁ t₂ k r = record {
    built = λ x z d. let i = rule_of_lem s (OfRule (Again p)) d q in rw i.1 (r.repeated t p i.0 z (u.told i.0 z i.2) (k.built i.0 z i.2));
  }

  -- counted parts: none of them allowed, and some; counted letters
  module _ (c : Counts) (h : CountsAs s at c) where
    pub none_done : kind_of (get_or s at 0) ≡ OfRule Counted → c.high ≡ 0 → (t : List ℕ) → Ready t base → BuiltAt s at t t base
    none_done q z t y = record {
      built = λ x e d.
          let i = rule_of_lem s (OfRule Counted) d q in
          rw (told_counts s at c h counted i.0 x i.1) (none_built t base c.low c.high i.0 z y.clean (omega (arith, base_small)));
    }

    pub counted_step : kind_of (get_or s at 0) ≡ OfRule Counted → (k : Shape) → ShapedAs s (at + 3) k → (t t₁ t₂ : List ℕ) → Ready t base
        → BuiltAt s (at + 3) t t₁ base → RowOf k c t₁ t₂ base → BuiltAt s at t t₂ base
    counted_step q k u t t₁ t₂ y b r = record {
      built = λ x e d.
          let i = rule_of_lem s (OfRule Counted) d q in
          rw (told_counts s at c h counted i.0 x i.1) (r.rowed t i.0 e y.clean (u.told i.0 e i.3) (b.built i.0 e i.3));
    }

    pub occurs_done : kind_of (get_or s at 0) ≡ OfRule Occurs → (l : Labelled) → LabelledAs s (at + 3) l → (t t₁ : List ℕ) → Ready t base
        → TallyOf l.label c.high t t₁ base → BuiltAt s at t t₁ base
    occurs_done q l is t t₁ y b = record {
      built = λ x e d.
          let i = rule_of_lem s (OfRule Occurs) d q in
          rw (told_counts s at c h occurs i.0 x i.1) (b.tally c.low i.0 y.clean (is i.0 e i.3).0);
    }

-- ---- an operator that stands at a place

-- its kind, and its operands' shapes
pub record TwoAt (s : List ℕ) (at base : ℕ) (p : Pair) (h k : Shape) : Type 0 where
  pub fits : Fits s at base
  pub kind : kind_of (get_or s at 0) ≡ OfRule (Two p)
  pub first : ShapedAs s (at + 1) h
  pub second : ShapedAs s h.end k

-- the operands of the rule r that stands there
record Operands (s : List ℕ) (at : ℕ) (p : Pair) (h k : Shape) (r : Rule) (e : ℕ) : Type 0 where
  first : Rule
  second : Rule
  whole : r ≡ two p first second
  first_stands : RuleAt s (at + 1) first h.end
  second_stands : RuleAt s h.end second e
  first_shape : ShapeOf first h.end h
  second_shape : ShapeOf second e k

module _ {s : List ℕ} {at base : ℕ} {p : Pair} {h k : Shape} (w : TwoAt s at base p h k) where
  operands : (r : Rule) (e : ℕ) → RuleAt s at r e → Operands s at p h k r e
  operands r e d =
      let i = rule_of_lem s (OfRule (Two p)) d w.kind in
      let o = w.first.told i.0 i.2 i.4 in
      let d₁ = rw (sym o.ends) at i.4 in
      let d₂ = rw (sym o.ends) at i.5 in
      record {
        first = i.0;
        second = i.1;
        whole = i.3;
        first_stands = d₁;
        second_stands = d₂;
        first_shape = w.first.told i.0 h.end d₁;
        second_shape = w.second.told i.1 e d₂;
      }

  pub weights : (0 < h.weight) × (0 < k.weight) × (base + pair_weight p h.weight k.weight ≤ table_states)
  weights = pair_weights s at base w.fits p w.kind h k w.first w.second

-- ---- where its operands go, before they are built

-- an operator stands there, with these operands, whose blocks are to stand from lo on
pub record LaidAt (s : List ℕ) (at base : ℕ) (p : Pair) (lo : ℕ) : Type 0 where
  pub fits : Fits s at base
  pub kind : kind_of (get_or s at 0) ≡ OfRule (Two p)
  pub first : Rule
  pub second : Rule
  pub mid : ℕ
  pub whole : fits.rule ≡ two p first second
  pub first_stands : RuleAt s (at + 1) first mid
  pub second_stands : RuleAt s mid second fits.past
  pub starts : lo ≡ operands_from p base
  pub behind : base ≤ lo
  pub inside : lo + (weight_of first + weight_of second) ≤ base + pair_weight p (weight_of first) (weight_of second)

module _ (s : List ℕ) (at base : ℕ) (g : Fits s at base) (p : Pair) (q : kind_of (get_or s at 0) ≡ OfRule (Two p)) {r : Option ℕ} (v : PlacedAt s at p base r) where
  pub laid_at : {lo : ℕ} → r ≡ Some lo → LaidAt s at base p lo
  laid_at {lo} e =
      let i = rule_of_lem s (OfRule (Two p)) g.stands q in
      let z = placed_from p base (weight_of i.0) (weight_of i.1) lo (rw e at (v.placed i.0 i.1 i.2 g.past i.4 i.5 (rw i.3 at g.room))) in
      record {
        fits = g;
        kind = q;
        first = i.0;
        second = i.1;
        mid = i.2;
        whole = i.3;
        first_stands = i.4;
        second_stands = i.5;
        starts = z.0;
        behind = z.1;
        inside = z.2;
      }

  -- an operator that wants its operands nowhere has no label
  pub nowhere_step : r ≡ None → (t : List ℕ) → Ready t base → BuiltAt s at t t base
  nowhere_step e t y = record {
    built = λ x z d.
        let i = rule_of_lem s (OfRule (Two p)) d q in
        let l : base + pair_weight p (weight_of i.0) (weight_of i.1) ≤ weight_limit = rw i.3 at (same_room x z d) in
        rw i.3 (placed_nowhere p base (weight_of i.0) (weight_of i.1) (rw e at (v.placed i.0 i.1 i.2 z i.4 i.5 l)) t i.0 i.1 y.clean refl refl);
  }
    where
      same_room : (x : Rule) (z : ℕ) → RuleAt s at x z → base + weight_of x ≤ weight_limit
      same_room x z d = rw (rule_once s g.stands x z d).0 at g.room

module _ {s : List ℕ} {at base : ℕ} {p : Pair} {lo : ℕ} (w : LaidAt s at base p lo) where
  room_all : lo + (weight_of w.first + weight_of w.second) ≤ table_states
  room_all = let l : base + pair_weight p (weight_of w.first) (weight_of w.second) ≤ weight_limit = rw w.whole at w.fits.room in omega (arith, w.inside)

  pub fits_lo : Fits s (at + 1) lo
  fits_lo = record { rule = w.first; past = w.mid; stands = w.first_stands; room = let l = room_all in omega arith }

  -- the first is built, and has this shape
  module _ (h : Shape) (u : ShapedAs s (at + 1) h) where
    abbrev shape : ShapeOf w.first w.mid h
    shape = u.told w.first w.mid w.first_stands

    -- the second operand stands further on
    pub further : at + 1 < h.end
    further = let r = (rule_ends s w.first_stands).0 in let e = shape.ends in omega arith

    pub mid_small : lo + h.weight < table_states
    mid_small = let l = room_all in let k = weight_pos w.second in let e = shape.weighs in omega arith

    pub fits_mid : Fits s h.end (lo + h.weight)
    fits_mid = record {
      rule = w.second;
      past = w.fits.past;
      stands = rw shape.ends w.second_stands;
      room = let l = room_all in let e = shape.weighs in omega arith;
    }

    pub ready_mid : (t t₁ : List ℕ) → Ready t base → length t₁ ≡ length t → BuiltAt s (at + 1) t t₁ lo → Ready t₁ (lo + h.weight)
    ready_mid t t₁ y l b =
        ready_on t t₁ lo (lo + h.weight) w.first (ready_up t base lo y w.behind) l (b.built w.first w.mid w.first_stands) (let e = shape.weighs in omega arith)

    -- both are
    module _ (k : Shape) (v : ShapedAs s h.end k) where
      pub two_at : TwoAt s at base p h k
      two_at = record { fits = w.fits; kind = w.kind; first = u; second = v }

      abbrev next_shape : ShapeOf w.second w.fits.past k
      next_shape = v.told w.second w.fits.past (rw shape.ends w.second_stands)

      pub room_of : (t : List ℕ) → table_entries ≤ length t → Room p h k t base
      room_of t l =
          let z = weights two_at in
          record {
            long = l;
            first_some = z.0;
            second_some = z.1;
            square = z.2;
            inside = rw w.starts at (rw (sym shape.weighs, sym next_shape.weighs) at w.inside);
          }

      pub two_step : (t t₁ t₂ t₃ : List ℕ) → Ready t base → BuiltAt s (at + 1) t t₁ lo → BuiltAt s h.end t₁ t₂ (lo + h.weight) → Joins p h k t₂ t₃ base → BuiltAt s at t t₃ base
      two_step t t₁ t₂ t₃ y b₁ b₂ j = record {
        built = λ x z d.
            let o = operands two_at x z d in
            let l = room_all in
            let m = o.first_shape.weighs in
            let n = shape.weighs in
            let s = beside t t₁ t₂ lo o.first o.second (omega arith) (b₁.built o.first h.end o.first_stands)
            (built_at t₁ t₂ (lo + h.weight) (lo + weight_of o.first) o.second (omega arith) (b₂.built o.second z o.second_stands)) in
            rw o.whole (j.joined t o.first o.second h.end z y.clean o.first_shape o.second_shape (subst (λ (c : ℕ). Beside t t₂ c o.first o.second) w.starts s));
      }
