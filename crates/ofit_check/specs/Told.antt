-- The verdict that a value of the program tells.
use Rattle.ofit_num.specs.Verdict as num
use Rattle.ofit_check.specs.declared.verdict.Verdict.{Verdict}
use Rattle.ofit_check.specs.declared.verdict.Verdict.TheVariants.{Settings, Size, GroupMissing, Disobeys, OutOfBounds, FlowNotPair, FlowOrder, FlowNotTight, Balance, Passes}

abbrev pub told : Verdict → num.Verdict
told Settings = num.settings_differ
told Size = num.size_differs
told (GroupMissing place) = num.group_missing place
told (Disobeys index) = num.disobeys index
told (OutOfBounds place) = num.out_of_bounds place
told (FlowNotPair number) = num.flow_not_pair number
told (FlowOrder number) = num.flow_order number
told (FlowNotTight number) = num.flow_not_tight number
told (Balance place) = num.balance_outside place
told Passes = num.passes
