use Rattle.ofit_order.specs.Connection.{LeadsUp}
use Rattle.ofit_fit.proofs.Linking.{AreFirstLinks}
use Rattle.ofit_fit.proofs.links.links_up.Given as goal

abbrev pub invariant-loop-place : goal.invariant-loop-place
invariant-loop-place l = AreFirstLinks (LeadsUp l.pairs) l.members l.place-index l.links.items
