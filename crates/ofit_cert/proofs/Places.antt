-- The tight pairs and the rows of a valid study.
use Rattle.std.proofs.Common.{◌≡◌, ℕ, ◌≤◌, List, [], length, ap, arith}
use Rattle.std.proofs.lemmas.List.Sums.{length-filter, count_by-le-length}
use Rattle.std.specs.Prelude.{slice_get, unwrap_or, Option, Some}
use Rattle.ofit_num.specs.declared.row.Row.{Row}
use Rattle.ofit_num.specs.Fraction.{Fraction}
use Rattle.ofit_study.specs.Study.{Study, IsValid, groups_of, places_of}
use Rattle.ofit_cert.specs.Tight.{is_tight, tight_among}
use Rattle.ofit_study.proofs.Places.{pair_count}

pub row_list : (s : Study) (g : ℕ) (rows : List Row) → slice_get (groups_of s) g ≡ Some rows → unwrap_or (slice_get (groups_of s) g) [] ≡ rows
row_list s g rows e = ap (λ (o : Option (List Row)). unwrap_or o []) e

-- the tight pairs are no more than the study may have
pub tight_few : (s : Study) → IsValid s → (fs : List Fraction) → length (tight_among fs (places_of s)) ≤ 20000
tight_few s v fs = omega (arith, length-filter (is_tight fs) (places_of s), count_by-le-length (is_tight fs) (places_of s), pair_count s, v.pairs)
