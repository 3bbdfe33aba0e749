use Rattle.std.proofs.Common.{arith, ◌≡◌, ◌<◌, ℕ, List, length, ap, subst, get_or}
use Rattle.std.proofs.lemmas.List.{get_or_default, get_or_read}
use Rattle.ofit_flow.specs.Incidence.{IsIncidence, row_of}
use Rattle.ofit_flow.proofs.Listing.{degree-small, rows_from_starts}
use Rattle.ofit_flow.proofs.incidence.incident_edges.Goals as goal

pub starts_of-requires-clause-small : goal.starts_of-requires-clause-small
starts_of-requires-clause-small c = λ k d b.
    let in_nodes : k < c.args.nodes = omega (arith, ap (length {A = ℕ}) c.deref.ensures.value, c.in_ok-degrees.ensures.counted) in
    omega (arith, get_or_default c.deref.result.now k d 0 b, ap (λ (l : List ℕ). get_or l k 0) c.deref.ensures.value, c.in_ok-degrees.ensures.each k in_nodes, degree-small c.args.edges.now k, c.requires.few)

pub returns-clause-rows : goal.returns-clause-rows
returns-clause-rows c =
    let degrees : length c.deref.result.now ≡ c.args.nodes = omega (arith, ap (length {A = ℕ}) c.deref.ensures.value, c.in_ok-degrees.ensures.counted) in
    let starts = c.in_ok-starts.ensures in
    let end : c.index.result.now ≡ get_or c.in_ok-starts.starts.items c.args.nodes 0 = get_or_read c.in_ok-starts.starts.items c.args.nodes c.index.result.now (omega (arith, starts.counted, degrees)) c.index.ensures 0 in
    rows_from_starts c.deref.result.now (record { starts = c.in_ok-starts.starts; numbers = c.list_edges.new.numbers }) c.args.nodes starts degrees
    (omega (arith, end, c.list_edges.ensures.counted, c.in_ok-numbers.ensures.len, c.in_ok-numbers.numbers.ok.0))

pub returns-clause-incidence : goal.returns-clause-incidence
returns-clause-incidence c =
    subst (λ (s : List ℕ). IsIncidence c.args.edges.now c.args.nodes (row_of s c.list_edges.new.numbers.items)) c.deref-2.ensures.value c.list_edges.ensures.listing
