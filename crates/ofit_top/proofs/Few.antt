-- A sheet of a valid study that passes has no more values than the study has groups, and no more flows than it has pairs.
use Rattle.std.proofs.Common.{◌≡◌, ℕ, zero, suc, ◌<◌, ◌≤◌, List, [], ◌∷◌, length, get_or, pos, refl, arith}
use Rattle.std.proofs.lemmas.List.{length-map}
use Rattle.std.proofs.lemmas.List.Elements.{All-head, All-tail}
use Rattle.std.proofs.lemmas.Option.{slice_get_within, slice_get-get_or}
use Rattle.std.specs.Prelude.{AllPairs, All, slice_get, Some}
use Rattle.ofit_num.specs.Flow.{Flow}
use Rattle.ofit_num.specs.Sheet.{Sheet, Entry, FitsCount}
use Rattle.ofit_num.specs.Verdict.{FlowsInOrder, Passes}
use Rattle.ofit_study.specs.declared.settings.Settings.{Settings}
use Rattle.ofit_study.specs.Name.{IsName}
use Rattle.ofit_study.specs.Study.{Study, IsValid, names_of, places_of, problem_stated, meaning_of, place_among}
use Rattle.ofit_study.proofs.Stating.{pairs_distinct, groups_named}
use Rattle.ofit_check.proofs.Amounts.{pair_of, flow_index, rising_index}
use Rattle.ofit_sheet.specs.Kept.{IsKept}
use Rattle.ofit_sheet.specs.SheetText.{name_at, sheet_text}
use Rattle.ofit_sheet.proofs.Lengths.{sheet_length}

-- places that rise from one value to the next are at least the values' indexes
place_least : (es : List Entry) (d : Entry) → AllPairs (λ e f. e.place < f.place) es → (i : ℕ) → i < length es → i ≤ (get_or es i d).place
place_least es d rising zero l = omega arith
place_least es d rising (suc i) l = omega (arith, place_least es d rising i (omega (arith, l)), rising i (suc i) d (omega arith) l)

few_values : (n : ℕ) (es : List Entry) (d : Entry) → AllPairs (λ e f. e.place < f.place) es → All (λ e. e.place < n) es → length es ≤ n
few_values n es d rising inside = go (length es) refl
  where
    go : (k : ℕ) → length es ≡ k → k ≤ n
    go zero e = omega arith
    go (suc k) e =
        let l : k < length es = omega (arith, e) in
        omega (arith, place_least es d rising k l, inside k d l)

module _ (s : Study) (v : IsValid s) (x : Sheet Settings) (order : FlowsInOrder (problem_stated s) s.settings x) where
  abbrev IsPairOf : ℕ → Flow → Type 0
  IsPairOf k f = slice_get (places_of s) k ≡ Some (pair_of f)

  pair_least : (d : Flow) (j k : ℕ) → j < length x.flows → IsPairOf k (get_or x.flows j d) → j ≤ k
  pair_least d zero k l at = omega arith
  pair_least d (suc j) k l at =
      let here : j < length x.flows = omega (arith, l) in
      let last : (m : ℕ) × IsPairOf m (get_or x.flows j d) =
      flow_index (problem_stated s) x (pairs_distinct s v) order.on_pairs.on_pairs order.in_order j (get_or x.flows j d) (slice_get-get_or x.flows j d here) in
      omega (
        arith,
        pair_least d j last.0 here last.1,
        rising_index (problem_stated s) x (pairs_distinct s v) order.on_pairs.on_pairs order.in_order j (suc j) (get_or x.flows j d) (get_or x.flows (suc j) d) last.0 k (omega arith)
            (slice_get-get_or x.flows j d here) (slice_get-get_or x.flows (suc j) d l) last.1 at,
      )

  few_flows : (d : Flow) → length x.flows ≤ length s.pairs
  few_flows d = go (length x.flows) refl
    where
      go : (k : ℕ) → length x.flows ≡ k → k ≤ length s.pairs
      go zero e = omega arith
      go (suc k) e =
          let here : k < length x.flows = omega (arith, e) in
          let last : (m : ℕ) × IsPairOf m (get_or x.flows k d) =
          flow_index (problem_stated s) x (pairs_distinct s v) order.on_pairs.on_pairs order.in_order k (get_or x.flows k d) (slice_get-get_or x.flows k d here) in
          omega (
            arith,
            pair_least d k last.0 here last.1,
            slice_get_within (places_of s) last.0 (pair_of (get_or x.flows k d)) last.1,
            length-map {B = ℕ × ℕ} s.pairs (λ e. (place_among (names_of s) e.0, place_among (names_of s) e.1)),
          )

-- no name of a group is longer than 64 bytes
short_names : (names : List (List ℕ)) → All IsName names → (g : ℕ) → length (name_at names g) ≤ 64
short_names [] named g = omega arith
short_names (name ∷ names) named zero = (All-head IsName name names named).most
short_names (name ∷ names) named (suc g) = short_names names (All-tail IsName name names named) g

pub sheet_fits_file : (s : Study) (x : Sheet Settings) → IsValid s → FitsCount (length (names_of s)) x → IsKept x → Passes (meaning_of s.settings.loss) (problem_stated s) s.settings x
    → length (sheet_text (names_of s) x) ≤ 33554432
sheet_fits_file s x v fits kept passes =
    omega (
      arith,
      sheet_length (names_of s) (short_names (names_of s) (groups_named s v)) x kept,
      few_values (length (names_of s)) x.values (record { place = 0; value = record { num = pos 0; den = 1 } }) fits.rising fits.places,
      few_flows s v x passes.tight.in_order (record { low = 0; high = 0; amount = 0 }),
      v.groups,
      v.pairs,
    )
