-- What a read of a record does to the records to come.
use Rattle.std.proofs.Common.{◌≡◌, ◌≤◌, ◌+◌, arith, length, ℕ, List, [], ◌∷◌, Option, Some, Result, Ok, refl, sym, ap, subst, ◌∙◌, ◌++◌, take, drop, inl, inr, true, false, Bool, Bor}
use Rattle.std.specs.Prelude.{not, ◌==◌, ◌&&◌}
use Rattle.csv.specs.declared.error.ErrorKind.{ErrorKind}
use Rattle.csv.specs.declared.error.ErrorKind.TheVariants as kind
use Rattle.std.specs.Prelude.{IsErr}
use Rattle.csv.specs.Reading.{reader_state, ExplainsRead, stops_reader, Reached, ReadRecord, Ready, default_config, has_failed, source_of, strip_bom, reader_trim}
use Rattle.csv.specs.declared.reader.Reader.{Reader}
use Rattle.csv.specs.declared.reader.Trim.TheVariants as trim
use Rattle.csv.specs.declared.parser.State.{State}
use Rattle.csv.specs.declared.parser.State.TheVariants as st
use Rattle.csv.proofs.ReadFacts.{rows-end, rows-more}
use Rattle.ofit_records.specs.Coming.{coming, records_left, IsAtRecord}
use Rattle.ofit_records.specs.Records.{records_of, without_marks}
use Rattle.ofit_records.proofs.FrontMarks.{none_left, no_longer}
use Rattle.ofit_records.proofs.Left.{count_left, left_more, left_none, left_unknown}

abbrev rem : Bor (List ℕ) → Option (List ℕ)
rem bytes = Some bytes.now

known : (a : Reader (Bor (List ℕ))) → has_failed a ≡ false → (xs : List ℕ) × (source_of rem a ≡ Some xs)
known a e = by (not a.bom_checked && (a.at == 0) && (a.filled == 0)) refl
  where
    by : (start : Bool) → (not a.bom_checked && (a.at == 0) && (a.filled == 0)) ≡ start → (xs : List ℕ) × (source_of rem a ≡ Some xs)
    by true start = (strip_bom a.rdr.now, rw (e, start) refl)
    by false start = (drop a.at (take a.filled a.buffer) ++ a.rdr.now, rw (e, start) refl)

true_false : (b : Bool) → b ≡ true → b ≡ false → ⊥
true_false b p q = cc

more_at : (a b : Reader (Bor (List ℕ))) (f : List (List ℕ)) (xs z : List ℕ) → source_of rem a ≡ Some xs → source_of rem b ≡ Some z
    → Reached default_config a.state xs (f ∷ []) b.state z → coming a ≡ f ∷ coming b
unfolding Reached
more_at a b f xs z source after reached =
    let (p, next, fields, there) = reached in
    let start : coming a ≡ records_left a.state (Some xs) = ap (λ (t : Option (List ℕ)). records_left a.state t) source in
    let rest : coming b ≡ records_left b.state (Some z) = ap (λ (t : Option (List ℕ)). records_left b.state t) after in
    let same : records_left p.1 (Some p.2) ≡ coming b = ap (λ (t : State). records_left t (Some p.2)) there.0 ∙ ap (λ (t : List ℕ). records_left b.state (Some t)) there.1 ∙ sym rest in
    start ∙ left_more a.state xs p next ∙ ap (λ (t : List (List ℕ)). t ∷ records_left p.1 (Some p.2)) (sym fields) ∙ ap (λ (t : List (List (List ℕ))). f ∷ t) same

reached_none : (a : Reader (Bor (List ℕ))) (xs : List ℕ) → Reached default_config a.state xs [] a.state xs
unfolding Reached
reached_none a xs = (refl, refl)

pub same_found : {E : Type 0} (x y : Bool) → ◌≡◌ {A = Result Bool E} (Ok x) (Ok y) → x ≡ y
same_found x y e = cc

pub one_more : (a b : Reader (Bor (List ℕ))) (found : Bool) (f : List (List ℕ)) → IsAtRecord a → (has_failed a ≡ true → found ≡ false)
    → (reader_trim a ≡ trim.None → Ready a → ReadRecord rem a b found f) → found ≡ true → coming a ≡ f ∷ coming b
one_more a b found f (inl failed) none reads e = absurd (true_false found e (none failed))
one_more a b found f (inr at) none reads e = by (has_failed a) refl
  where
    found_one : ReadRecord rem a b true f
    found_one = subst (λ (t : Bool). ReadRecord rem a b t f) e (reads at.1 at.3)

    by : (failed : Bool) → has_failed a ≡ failed → coming a ≡ f ∷ coming b
    by true failed = absurd (true_false found e (none failed))
    by false on =
        let k = known a on in
        let m = rows-more rem a b f default_config a.state k.0 k.0 [] at.0 k.1 (reached_none a k.0) found_one in
        more_at a b f k.0 m.0 k.1 m.1 m.2

pub no_more : (a b : Reader (Bor (List ℕ))) (found : Bool) (f : List (List ℕ)) → IsAtRecord a
    → (reader_trim a ≡ trim.None → Ready a → ReadRecord rem a b found f) → found ≡ false → coming a ≡ []
no_more a b found f (inl failed) reads e = rw failed (left_unknown a.state)
no_more a b found f (inr at) reads e = by (has_failed a) refl
  where
    found_none : ReadRecord rem a b false f
    found_none = subst (λ (t : Bool). ReadRecord rem a b t f) e (reads at.1 at.3)

    by : (failed : Bool) → has_failed a ≡ failed → coming a ≡ []
    by true failed = rw failed (left_unknown a.state)
    by false on =
        let k = known a on in
        ap (λ (t : Option (List ℕ)). records_left a.state t) k.1 ∙ left_none a.state k.0 (rows-end rem a b f default_config k.0 at.0 k.1 found_none)

pub none_behind_failure : (b : Reader (Bor (List ℕ))) → has_failed b ≡ true → coming b ≡ []
none_behind_failure b failed = rw failed (left_unknown b.state)

-- a read of bytes in memory that goes wrong stops the reader
pub stopped : {E : Type 0} (a b : Reader (Bor (List ℕ))) (k : ErrorKind) (x : Result Bool E) → IsAtRecord a → (has_failed a ≡ true → x ≡ Ok false)
    → IsErr x → (Ready a → ExplainsRead rem a b false k) → stops_reader k ≡ true
stopped a b k x (inl failed) none err why = absurd (true_false false (rw (none failed) at err) refl)
stopped a b k x (inr at) none err why = by k (why at.3)
  where
    by : (k : ErrorKind) → ExplainsRead rem a b false k → stops_reader k ≡ true
    by (kind.Io e) h = refl
    by kind.OutOfMemory h = refl
    by (kind.UnequalLengths pos expected len) h = absurd (true_false a.flexible at.2 h.0)
    by (kind.Utf8 pos err) h = absurd (true_false true refl (sym h.0))
    by (kind.Serialize why) h = absurd h
    by (kind.Deserialize pos err) h = absurd h

pub all_to_come : (r : Reader (Bor (List ℕ))) (bytes marked : List ℕ) → reader_state r ≡ st.StartRecord → source_of rem r ≡ Some (strip_bom bytes) → bytes ≡ without_marks marked
    → coming r ≡ records_of marked
unfolding records_left
all_to_come r bytes marked start source e =
    ap (λ (t : State). records_left t (source_of rem r)) start
    ∙ ap (λ (t : Option (List ℕ)). records_left st.StartRecord t) (source ∙ ap (λ (t : List ℕ). Some (strip_bom t)) e ∙ ap (λ (t : List ℕ). Some t) (none_left marked))

pub count_records : (bytes : List ℕ) → length (records_of bytes) ≤ length bytes + 1
unfolding records_left
count_records bytes = omega (arith, count_left st.StartRecord (without_marks bytes), no_longer bytes)
