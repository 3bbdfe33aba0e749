-- Pairs of names in their order are known by which they are.
use Rattle.std.proofs.Common.{◌≡◌, ◌∙◌, ℕ, List, Ordering, inl, inr, sym, subst}
use Rattle.std.specs.Prelude.{AllPairs, Contains}
use Rattle.std.specs.declared.cmp.Ordering.TheVariants.{Less, Equal, Greater}
use Rattle.std.specs.Cmp.Lexicographic.{slice_cmp}
use Rattle.std.specs.Ordering.{nat_cmp, ordering_reverse}
use Rattle.std.proofs.lemmas.Cmp.{nat_list_cmp_total}
use Rattle.ofit_num.proofs.Members.{sorted_one}
use Rattle.ofit_study.specs.Study.{ComesBefore, IsBefore}

never_less : (o : Ordering) → o ≡ ordering_reverse o → o ≡ Less → ⊥
never_less Less e l = absurd cc
never_less Equal e l = absurd cc
never_less Greater e l = absurd cc

never_text : (a : List ℕ) → IsBefore a a → ⊥
never_text a h = never_less (slice_cmp nat_cmp a a) (nat_list_cmp_total.antisymm a a) h

over_text : (a b c : List ℕ) → IsBefore a b → IsBefore b c → IsBefore a c
over_text a b c h k = nat_list_cmp_total.trans a b c h k

never : (e : List ℕ × List ℕ) → ComesBefore e e → ⊥
never e (inl h) = never_text e.0 h
never e (inr h) = never_text e.1 h.1

over : (e f g : List ℕ × List ℕ) → ComesBefore e f → ComesBefore f g → ComesBefore e g
over e f g (inl h) (inl k) = inl (over_text e.0 f.0 g.0 h k)
over e f g (inl h) (inr k) = inl (subst (λ (t : List ℕ). IsBefore e.0 t) k.0 h)
over e f g (inr h) (inl k) = inl (subst (λ (t : List ℕ). IsBefore t g.0) (sym h.0) k)
over e f g (inr h) (inr k) = inr (h.0 ∙ k.0, over_text e.1 f.1 g.1 h.1 k.1)

pub ordered_one : (a b : List (List ℕ × List ℕ)) → AllPairs ComesBefore a → AllPairs ComesBefore b → ((e : List ℕ × List ℕ) → Contains a e → Contains b e) → ((e : List ℕ × List ℕ) → Contains b e → Contains a e) → a ≡ b
ordered_one a b = sorted_one ComesBefore never over a b
