-- An order file is read in one way.
use Rattle.std.proofs.Common.{◌≡◌, ◌≢◌, ◌++◌, ◌∙◌, ℕ, List, ◌∷◌, Result, Err, ap, subst}
use Rattle.std.specs.Prelude.{AllPairs}
use Rattle.ofit_records.specs.Records.{records_of}
use Rattle.ofit_study.specs.Study.{Study, names_of}
use Rattle.ofit_study.proofs.GroupNames.{group_names-distinct}
use Rattle.ofit_study.proofs.Zips.{split, zip_one}
use Rattle.ofit_table.specs.declared.fault.OrderFault.{OrderFault}
use Rattle.ofit_table.specs.declared.fault.OrderFault.TheVariants.{Memory}
use Rattle.ofit_table.specs.declared.header.OrderColumns.{OrderColumns}
use Rattle.ofit_table.specs.Pairs.{ArePairs, IsPair, PairFault}
use Rattle.ofit_table.specs.PairsRead.{PairsRead, order_table}
use Rattle.ofit_table.proofs.NamedPairs.{paired_one}
use Rattle.ofit_table.proofs.OneTable.{AreSure, one_table}
use Rattle.ofit_table.proofs.OrderHeaders.{columns_one, header_fault_one, no_header_fault}
use Rattle.ofit_table.proofs.PairReadings.{none_at, pair_fault_one, pair_one}

module _ (names : List (List ℕ)) (apart : AllPairs (λ a b. a ≢ b) names) (columns : OrderColumns) where
  none_among : (before after : List (List (List ℕ))) (fields : List (List ℕ)) (pairs all : List (ℕ × ℕ)) (number : ℕ) (f : OrderFault) → ArePairs columns names before pairs → PairFault columns names pairs fields number f
      → ArePairs columns names (before ++ fields ∷ after) all → ⊥
  none_among before after fields pairs all number f fine found h =
      let s = split (IsPair columns names) before fields after all h.each in
      let done : s.done ≡ pairs = zip_one (IsPair columns names) (pair_one columns names apart) before s.done pairs s.each fine.each in
      let same : all ≡ pairs ++ s.one ∷ s.rest = s.same ∙ ap (λ (t : List (ℕ × ℕ)). t ++ s.one ∷ s.rest) done in
      none_at columns names apart pairs s.rest s.one fields number f (before ++ fields ∷ after) found s.at (subst (ArePairs columns names (before ++ fields ∷ after)) same h)

sure : (study : Study) → AreSure (order_table study)
sure study =
    let names = names_of study in
    let apart = group_names-distinct study.rows in
    record {
      columns_one = columns_one;
      header_one = header_fault_one;
      header_good = no_header_fault;
      parts_one = λ columns records pairs others h k. zip_one (IsPair columns names) (pair_one columns names apart) records pairs others h.each k.each;
      fault_one = λ columns. pair_fault_one columns names;
      fault_good = none_among names apart;
      made_one = paired_one study;
    }

pub one_order : (bytes : List ℕ) (study : Study) (a b : Result Study OrderFault) → PairsRead bytes study a → PairsRead bytes study b → (a ≡ Err Memory → ⊥) → (b ≡ Err Memory → ⊥) → a ≡ b
one_order bytes study = one_table (order_table study) (sure study) (records_of bytes)
