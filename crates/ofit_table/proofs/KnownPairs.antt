-- The pairs that were read so far, each once.
use Rattle.std.proofs.Common.{◌≡◌, ◌≢◌, ◌≤◌, ◌+◌, ◌⊎◌, ◌++◌, ◌∙◌, ℕ, List, [], ◌∷◌, Ok, length, get_or, sym, subst, inl, inr, append_assoc, arith}
use Rattle.std.specs.Prelude.{All, Contains}
use Rattle.std.specs.List.{AllZip}
use Rattle.std.proofs.lemmas.List.{length-append}
use Rattle.std.proofs.lemmas.List.Elements.{All-cons, All-nil, All-contains, Contains-append_left, Contains-get_or, Contains-push, Contains-push_cases}
use Rattle.std.proofs.lemmas.List.Quantifiers.{all_pairs_push}
use Rattle.ofit_num.proofs.Lists.{zip-push}
use Rattle.ofit_study.specs.Study.{HasPairs, Study, most_pairs, names_of}
use Rattle.ofit_table.specs.declared.fault.OrderFault.{OrderFault}
use Rattle.ofit_table.specs.declared.fault.OrderFault.TheVariants.{Memory}
use Rattle.ofit_table.specs.declared.header.OrderColumns.{OrderColumns}
use Rattle.ofit_table.specs.Pairs.{AreDistinct, ArePairs, IsPair, IsPairTooMany}
use Rattle.ofit_table.specs.PairsRead.{order_table}
use Rattle.ofit_table.specs.Reading.{IsNotTaken, IsReadSoFar, KnownRead, KnowsPair}
use Rattle.ofit_table.specs.TableRead.{HasFault}
use Rattle.ofit_table.proofs.PatternPairs.{IsInside}
use Rattle.ofit_table.proofs.Places.{within}

distinct_more : (pairs known after : List (ℕ × ℕ)) (pair : ℕ × ℕ) → AreDistinct pairs known → KnowsPair known pair after → AreDistinct (pairs ++ pair ∷ []) after
distinct_more pairs known after pair d (inl (there, same)) = subst (AreDistinct (pairs ++ pair ∷ [])) (sym same) record {
  each = d.each;
  same = λ e. (λ h. Contains-append_left pairs (pair ∷ []) e ((d.same e).0 h), λ h. back e (Contains-push_cases pairs pair e h));
}
  where
    back : (e : ℕ × ℕ) → Contains pairs e ⊎ (pair ≡ e) → Contains known e
    back e (inl h) = (d.same e).1 h
    back e (inr h) = subst (Contains known) h there
distinct_more pairs known after pair d (inr (new, pushed)) = subst (AreDistinct (pairs ++ pair ∷ [])) (sym pushed) record {
  each = all_pairs_push (λ a b. a ≢ b) known pair d.each new;
  same = λ e. (λ h. on e (Contains-push_cases known pair e h), λ h. back e (Contains-push_cases pairs pair e h));
}
  where
    on : (e : ℕ × ℕ) → Contains known e ⊎ (pair ≡ e) → Contains (pairs ++ pair ∷ []) e
    on e (inl h) = Contains-append_left pairs (pair ∷ []) e ((d.same e).0 h)
    on e (inr h) = subst (Contains (pairs ++ pair ∷ [])) h (Contains-push pairs pair)

    back : (e : ℕ × ℕ) → Contains pairs e ⊎ (pair ≡ e) → Contains (known ++ pair ∷ []) e
    back e (inl h) = Contains-append_left known (pair ∷ []) e ((d.same e).1 h)
    back e (inr h) = subst (Contains (known ++ pair ∷ [])) h (Contains-push known pair)

pub one_read : (columns : OrderColumns) (names : List (List ℕ)) (records left : List (List (List ℕ))) (fields : List (List ℕ)) (number next : ℕ) (known after : List (ℕ × ℕ)) (pair : ℕ × ℕ)
    → IsReadSoFar columns names records (fields ∷ left) number known → IsPair columns names fields pair → KnowsPair known pair after → length after ≤ most_pairs → next ≡ number + 1
    → IsReadSoFar columns names records left next after
one_read columns names records left fields number next known after pair so is knows few step =
    let size = length-append so.done (fields ∷ []) in
    let at = so.next in
    record {
      done = so.done ++ fields ∷ [];
      pairs = so.pairs ++ pair ∷ [];
      parted = so.parted ∙ sym (append_assoc so.done (fields ∷ []) left);
      each = zip-push (IsPair columns names) so.done so.pairs fields pair so.each is;
      distinct = distinct_more so.pairs known after pair so.distinct knows;
      few = few;
      next = omega arith;
    }

fine : (columns : OrderColumns) (names : List (List ℕ)) (records left : List (List (List ℕ))) (number : ℕ) (known : List (ℕ × ℕ)) (so : IsReadSoFar columns names records left number known)
    → ArePairs columns names so.done so.pairs
fine columns names records left number known so = record { each = so.each; known = known; distinct = so.distinct; few = so.few }

all_new : (pairs known : List (ℕ × ℕ)) (pair : ℕ × ℕ) → AreDistinct pairs known → All (λ e. e ≢ pair) known → All (λ e. e ≢ pair) pairs
all_new pairs known pair d new k e lt = All-contains (λ x. x ≢ pair) known (get_or pairs k e) new ((d.same (get_or pairs k e)).1 (Contains-get_or pairs k e lt))

pub too_many_found : (columns : OrderColumns) (study : Study) (records left : List (List (List ℕ))) (fields : List (List ℕ)) (number : ℕ) (known : List (ℕ × ℕ)) (pair : ℕ × ℕ) (fault : OrderFault)
    → IsReadSoFar columns (names_of study) records (fields ∷ left) number known → IsPair columns (names_of study) fields pair → (fault ≡ Memory) ⊎ IsNotTaken known pair number fault
    → (fault ≡ Memory) ⊎ HasFault (order_table study) columns records fault
too_many_found columns study records left fields number known pair fault so is (inl memory) = inl memory
too_many_found columns study records left fields number known pair fault so is (inr not) = inr record {
  before = so.done;
  fields = fields;
  after = left;
  parts = so.pairs;
  spells = so.parted;
  fine = fine columns (names_of study) records (fields ∷ left) number known so;
  found = inr (subst (λ (n : ℕ). IsPairTooMany columns (names_of study) so.pairs fields n fault) so.next record {
    is = not.is;
    pair = pair;
    related = is;
    new = all_new so.pairs known pair so.distinct not.new;
    known = known;
    distinct = so.distinct;
    full = not.full;
  });
}

inside : (columns : OrderColumns) (names : List (List ℕ)) (records : List (List (List ℕ))) (pairs : List (ℕ × ℕ)) → AllZip (IsPair columns names) records pairs → All (IsInside (length names)) pairs
inside columns names [] [] h = All-nil (IsInside (length names))
inside columns names [] (p ∷ pairs) h = absurd h
inside columns names (r ∷ records) [] h = absurd h
inside columns names (r ∷ records) (p ∷ pairs) h =
    All-cons (IsInside (length names)) p pairs (within names p.0 h.0.low h.0.low_place, within names p.1 h.0.high h.0.high_place) (inside columns names records pairs h.1)

pub known_inside : (columns : OrderColumns) (study : Study) (records : List (List (List ℕ))) (known : List (ℕ × ℕ)) → KnownRead columns study records (Ok known) → All (IsInside (length (names_of study))) known
known_inside columns study records known h k e lt =
    All-contains (IsInside (length (names_of study))) h.0 (get_or known k e) (inside columns (names_of study) records h.0 h.1) ((h.2.same (get_or known k e)).0 (Contains-get_or known k e lt))

-- a study takes pairs as it takes them each once
pub pairs_taken : (study after : Study) (pairs known : List (ℕ × ℕ)) → AreDistinct pairs known → HasPairs study known after → HasPairs study pairs after
pairs_taken study after pairs known d h = record {
  others = h.others;
  in_order = h.in_order;
  only = λ e. (λ c. (h.only e).0 ((d.same e).1 c), λ c. (d.same e).0 ((h.only e).1 c));
  known = h.known;
}
