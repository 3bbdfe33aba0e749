use Rattle.ofit_study.specs.Study.{problem_stated}
use Rattle.ofit_num.specs.Unbounded.{without_bounds}
use Rattle.std.proofs.Common.{ℕ, refl, ◌↔◌, arith, List, map, slice_index, subst, sym, ◌∙◌}
use Rattle.std.proofs.lemmas.Result.{IfOk-weaker}
use Rattle.std.specs.Prelude.{Vec}
use Rattle.std.specs.Global.{Global}
use Rattle.std.specs.List.{Contains}
use Rattle.ofit_num.specs.Fraction.{Fraction}
use Rattle.ofit_num.specs.declared.frac.Frac.{Frac}
use Rattle.ofit_num.specs.Fit.{LeastBestValues}
use Rattle.ofit_order.specs.Shape.{IsChainOf}
use Rattle.ofit_chain.specs.Chain.{chain_problem}
use Rattle.ofit_fit.specs.Links.{AreWholeMembers}
use Rattle.ofit_fit.specs.Put.{ArePut}
use Rattle.ofit_fit.proofs.Closed.{distinct_from_increasing}
use Rattle.ofit_fit.proofs.Chained.{path_count, path_inside, path_once, path_distinct, chained}
use Rattle.ofit_fit.proofs.Ready.{scaling, places_closed, whole_members}
use Rattle.ofit_fit.proofs.chain.fit_as_chain.Goals as goal

pub path_of-requires-clause-whole : goal.path_of-requires-clause-whole
path_of-requires-clause-whole g c = subst (λ (ps : List (ℕ × ℕ)). AreWholeMembers ps c.args.members.now) (sym c.pairs.ensures) (whole_members c.args.study.now c.args.order.now c.requires.study c.args.members.now c.requires.places)

pub path_of-requires-clause-chain : goal.path_of-requires-clause-chain
path_of-requires-clause-chain g c = (c.requires.chain.0, subst (λ (ps : List (ℕ × ℕ)). IsChainOf ps c.args.members.now c.requires.chain.0) (sym c.pairs.ensures) c.requires.chain.1)

pub fit_along-requires-clause-path : goal.fit_along-requires-clause-path
fit_along-requires-clause-path g c =
    let chain = subst (λ (ps : List (ℕ × ℕ)). IsChainOf ps c.args.members.now c.requires.chain.0) (sym c.pairs.ensures) c.requires.chain.1 in
    path_inside c.pairs.result.now c.args.members.now c.requires.chain.0 (distinct_from_increasing c.args.members.now c.requires.places.rising) chain c.as_slice.result.now (c.as_slice.ensures.value ∙ c.in_ok-path.ensures c.requires.chain.0 chain)

pub fit_along-requires-clause-few : goal.fit_along-requires-clause-few
fit_along-requires-clause-few g c =
    let chain = subst (λ (ps : List (ℕ × ℕ)). IsChainOf ps c.args.members.now c.requires.chain.0) (sym c.pairs.ensures) c.requires.chain.1 in
    let n = path_count c.pairs.result.now c.args.members.now c.requires.chain.0 (distinct_from_increasing c.args.members.now c.requires.places.rising) chain c.as_slice.result.now (c.as_slice.ensures.value ∙ c.in_ok-path.ensures c.requires.chain.0 chain) in
    omega (arith, n, c.requires.places.few)

pub fit_along-requires-clause-once : goal.fit_along-requires-clause-once
fit_along-requires-clause-once g c =
    let chain = subst (λ (ps : List (ℕ × ℕ)). IsChainOf ps c.args.members.now c.requires.chain.0) (sym c.pairs.ensures) c.requires.chain.1 in
    path_once c.pairs.result.now c.args.members.now c.requires.chain.0 (distinct_from_increasing c.args.members.now c.requires.places.rising) chain c.as_slice.result.now (c.as_slice.ensures.value ∙ c.in_ok-path.ensures c.requires.chain.0 chain)

pub values_put-requires-clause-as_long : goal.values_put-requires-clause-as_long
values_put-requires-clause-as_long g c = omega (arith, c.as_slice-3.ensures.len, c.in_ok-values.ensures.count, c.as_slice.ensures.len, c.as_slice-2.ensures.len)

pub values_put-requires-clause-inside : goal.values_put-requires-clause-inside
values_put-requires-clause-inside g c =
    let chain = subst (λ (ps : List (ℕ × ℕ)). IsChainOf ps c.args.members.now c.requires.chain.0) (sym c.pairs.ensures) c.requires.chain.1 in
    let is = c.as_slice-2.ensures.value ∙ c.in_ok-path.ensures c.requires.chain.0 chain in
    let distinct = distinct_from_increasing c.args.members.now c.requires.places.rising in
    let n = path_count c.pairs.result.now c.args.members.now c.requires.chain.0 distinct chain c.as_slice-2.result.now is in
    let all = path_inside c.pairs.result.now c.args.members.now c.requires.chain.0 distinct chain c.as_slice-2.result.now is in
    λ k d l. omega (arith, n, all k d l)

pub values_put-requires-clause-distinct : goal.values_put-requires-clause-distinct
values_put-requires-clause-distinct g c =
    let chain = subst (λ (ps : List (ℕ × ℕ)). IsChainOf ps c.args.members.now c.requires.chain.0) (sym c.pairs.ensures) c.requires.chain.1 in
    path_distinct c.pairs.result.now c.args.members.now c.requires.chain.0 (distinct_from_increasing c.args.members.now c.requires.places.rising) chain c.as_slice-2.result.now (c.as_slice-2.ensures.value ∙ c.in_ok-path.ensures c.requires.chain.0 chain)

pub returns : goal.returns
returns g c =
    let s = without_bounds (problem_stated c.args.study.now) in
    let members = c.args.members.now in
    let list = c.requires.chain.0 in
    let chain = subst (λ (ps : List (ℕ × ℕ)). IsChainOf ps members list) (sym c.pairs.ensures) c.requires.chain.1 in
    let is = c.as_slice-2.ensures.value ∙ c.in_ok-path.ensures list chain in
    let same_pairs : (e : ℕ × ℕ) → Contains c.pairs.result.now e ↔ Contains s.pairs e = subst (λ (ps : List (ℕ × ℕ)). (e : ℕ × ℕ) → Contains ps e ↔ Contains s.pairs e) (sym c.pairs.ensures) c.requires.study.of.pairs in
    let low : LeastBestValues g.L.Loss.meaning (chain_problem (map s.rows (map (slice_index members) c.as_slice-2.result.now))) c.as_slice-3.result.now =
    subst (λ (vs : List Fraction). LeastBestValues g.L.Loss.meaning (chain_problem (map s.rows (map (slice_index members) c.as_slice-2.result.now))) vs) (sym c.as_slice-3.ensures.value)
    (subst (λ (ps : List ℕ). LeastBestValues g.L.Loss.meaning (chain_problem (map s.rows (map (slice_index members) ps))) c.in_ok-values.values.items) (c.as_slice.ensures.value ∙ sym c.as_slice-2.ensures.value) c.in_ok-values.ensures.least_best) in
    IfOk-weaker c.values_put.result _ _
    (λ (fitted : Vec Frac Global) (put : ArePut c.as_slice-2.result.now c.as_slice-3.result.now c.as_slice-3.result.now fitted.items).
    chained c.pairs.result.now members list (distinct_from_increasing members c.requires.places.rising) chain c.as_slice-2.result.now is g.L.Loss.meaning s
    (λ g. refl) same_pairs (places_closed c.args.study.now c.args.order.now c.requires.study members c.requires.places)
    (scaling c.args.study.now c.args.order.now c.requires.study g.L.Loss.meaning g.L.Loss.STRICT g.met.L.Loss.laws) c.as_slice-3.result.now fitted.items low put)
    c.values_put.ensures
