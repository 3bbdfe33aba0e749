-- A study and its values have one report.
use Rattle.std.proofs.Common.{◌≡◌, ℕ, ◌+◌, ◌<◌, ◌∙◌, refl, sym, ap, subst, arith, List, [], ◌∷◌, ◌++◌, length, slice_index}
use Rattle.std.proofs.lemmas.Int.{ints, by_lt_z}
use Rattle.std.proofs.lemmas.Option.{slice_get_within, get_or_from_slice_get}
use Rattle.std.specs.Prelude.{ℤ, pos, ◌+ℤ◌, ◌*ℤ◌, ◌≤ℤ◌, ◌<ℤ◌, All, slice_get, Some, None, Option, unwrap_or}
use Rattle.ofit_num.specs.DecimalText.{IsFixed}
use Rattle.ofit_num.specs.Fraction.{Fraction, IsLowest}
use Rattle.ofit_num.specs.Reduced.{Reduces}
use Rattle.ofit_num.proofs.Coprime.{same_lowest}
use Rattle.ofit_num.proofs.Fixed.{one_fixed}
use Rattle.ofit_num.proofs.Lists.{All-slice_get, same_lists}
use Rattle.ofit_num.proofs.Order.{mul_pos, cancel_ℤ, assoc_swap, pow_above}
use Rattle.ofit_order.specs.Relation.{Relation}
use Rattle.ofit_order.specs.Component.{IsComponentCount}
use Rattle.ofit_order.proofs.Shaping.{AreMembers-same}
use Rattle.ofit_order.proofs.Uniqueness.{AreLeastPlaces-same, only_component}
use Rattle.ofit_records.specs.Written.{records_text}
use Rattle.ofit_study.specs.Study.{Study, names_of, problem_stated, meaning_of}
use Rattle.ofit_report.specs.Tight.{value_at}
use Rattle.ofit_report.specs.Blocks.{order_of, block_order, IsBlockOf}
use Rattle.ofit_report.specs.Cost.{rows_among, block_value, IsCost}
use Rattle.ofit_report.specs.ReportText.{IsRoundedDown, IsGroupRecord, IsBlockRecord, AreRecords, ReportText, name_at, header_fields, size_fields, group_fields, block_fields, end_fields}
use Rattle.ofit_report.proofs.Listed.{Fields}

-- whole numbers with the same fraction just above them
floor_at_most : (u w n : ℤ) (d : ℕ) → (u *ℤ pos d) ≤ℤ n → n <ℤ ((w +ℤ pos 1) *ℤ pos d) → u ≤ℤ w
floor_at_most u w n d a b = by_lt_z w u (λ less. absurd (omega (arith, ints, a, b, mul_pos (w +ℤ pos 1) u d (omega (arith, ints, less))))) (λ le. le)

rounded_once : (value : Fraction) (places : ℕ) (a b : List ℕ) → IsRoundedDown value places a → IsRoundedDown value places b → a ≡ b
rounded_once value places a b x y =
    let units : x.units ≡ y.units = omega (arith, ints, floor_at_most x.units y.units _ value.den x.at_most y.greatest, floor_at_most y.units x.units _ value.den y.at_most x.greatest) in
    one_fixed a b (places + 3) y.units (subst (λ (z : ℤ). IsFixed a z (places + 3)) units x.spells) y.spells

block_once : (s : Study) (values : List Fraction) (g a b : ℕ) → IsBlockOf s values a g → IsBlockOf s values b g → a ≡ b
block_once s values g a b (j, ja, jo) (k, kb, ko) = omega (arith, ja, kb, only_component (block_order s values) ko.0 j g ko.1 ko.2 jo)

group_once : (s : Study) (values : List Fraction) (g : ℕ) (a b : Fields) → IsGroupRecord s values g a → IsGroupRecord s values g b → a ≡ b
group_once s values g a b x y =
    let value = value_at values g in
    let rows = (problem_stated s).rows g in
    x.spells
    ∙ ap (λ (k : ℕ). group_fields (name_at s g) rows k value x.rounded) (block_once s values g x.block y.block x.is_block y.is_block)
    ∙ ap (λ (t : List ℕ). group_fields (name_at s g) rows y.block value t) (rounded_once value s.settings.places x.rounded y.rounded x.is_rounded y.is_rounded)
    ∙ sym y.spells

reduced_once : (c : ℤ) (d : ℕ) (f h : Fraction) → 0 < d → Reduces c (pos d) f → Reduces c (pos d) h → f ≡ h
reduced_once c d f h l a b = same_lowest f h a.lowest b.lowest (cancel_ℤ _ _ d l (
    assoc_swap f.num (pos h.den) (pos d) ∙ ap (λ (z : ℤ). z *ℤ pos h.den) a.same ∙ assoc_swap c (pos f.den) (pos h.den)
    ∙ ap (λ (z : ℤ). z *ℤ pos f.den) (sym b.same) ∙ assoc_swap h.num (pos d) (pos f.den)
    ))

own_den : (o : Option Fraction) → ((f : Fraction) → o ≡ Some f → 0 < f.den) → 0 < (unwrap_or o (record { num = pos 0; den = 1 })).den
own_den None h = omega arith
own_den (Some f) h = h f refl

module _ (s : Study) (values : List Fraction) (lowest : All IsLowest values) where
  den_some : (g : ℕ) → 0 < (value_at values g).den
  den_some g = own_den (slice_get values g) (λ f e. (All-slice_get IsLowest values g f lowest e).den)

  block_record_once : (k : ℕ) (a b : Fields) → IsBlockRecord s values k a → IsBlockRecord s values k b → a ≡ b
  block_record_once k a b x y =
      let members : x.members ≡ y.members = AreMembers-same (block_order s values) k x.members y.members x.are_members y.are_members in
      let here : IsCost (meaning_of s.settings.loss) (rows_among s y.members) (block_value values y.members) x.cost = subst (λ (ms : List ℕ). IsCost (meaning_of s.settings.loss) (rows_among s ms) (block_value values ms) x.cost) members x.is_cost in
      let cost : x.cost ≡ y.cost = reduced_once _ _ x.cost y.cost (pow_above (block_value values y.members).den (meaning_of s.settings.loss).degree (den_some (slice_index y.members 0))) here y.is_cost in
      x.spells
      ∙ ap (λ (ms : List ℕ). block_fields (k + 1) (length ms) (rows_among s ms) (block_value values ms) x.cost) members
      ∙ ap (λ (f : Fraction). block_fields (k + 1) (length y.members) (rows_among s y.members) (block_value values y.members) f) cost
      ∙ sym y.spells

  records_once : (P : ℕ → Fields → Type 0) → ((k : ℕ) (a b : Fields) → P k a → P k b → a ≡ b) → (n : ℕ) (xs ys : List Fields) → AreRecords P n xs → AreRecords P n ys → xs ≡ ys
  records_once P once n xs ys x y = same_lists xs ys (x.counted ∙ sym y.counted) (λ k a b e d.
      let below : k < n = omega (arith, slice_get_within xs k a e, x.counted) in
      once k a b (subst (P k) (get_or_from_slice_get xs k a [] e) (x.each k below)) (subst (P k) (get_or_from_slice_get ys k b [] d) (y.each k below)))

  count_once : (order : Relation) (a b : ℕ) → IsComponentCount order a → IsComponentCount order b → a ≡ b
  count_once order a b x y = x.2 ∙ ap length (AreLeastPlaces-same order x.0 y.0 x.1 y.1) ∙ sym y.2

  pub one_report : (a b : List ℕ) → ReportText s values a → ReportText s values b → a ≡ b
  one_report a b x y =
      let components : x.components ≡ y.components = count_once (order_of s) x.components y.components x.is_count y.is_count in
      let blocks : x.blocks ≡ y.blocks = count_once (block_order s values) x.blocks y.blocks x.is_block_count y.is_block_count in
      let groups : x.group_records ≡ y.group_records = records_once (IsGroupRecord s values) (group_once s values) (length (names_of s)) x.group_records y.group_records x.are_groups y.are_groups in
      let parts : x.block_records ≡ y.block_records = records_once (IsBlockRecord s values) block_record_once y.blocks x.block_records y.block_records (subst (λ (n : ℕ). AreRecords (IsBlockRecord s values) n x.block_records) blocks x.are_blocks) y.are_blocks in
      let report = λ (c n : ℕ) (gs bs : List Fields). records_text (header_fields s.settings ∷ size_fields s c n ∷ (gs ++ bs ++ end_fields ∷ [])) in
      x.spells
      ∙ ap (λ (c : ℕ). report c x.blocks x.group_records x.block_records) components
      ∙ ap (λ (n : ℕ). report y.components n x.group_records x.block_records) blocks
      ∙ ap (λ (gs : List Fields). report y.components y.blocks gs x.block_records) groups
      ∙ ap (λ (bs : List Fields). report y.components y.blocks y.group_records bs) parts
      ∙ sym y.spells
