use Rattle.ofit_input.proofs.OneGiven.{one_study, one_sheet, one_script}
use Rattle.ofit_input.proofs.OnePeak.{one_peak_study, one_peaked}
use Rattle.ofit_input.proofs.OneReady.{one_ready}
use Rattle.ofit_input.proofs.laws.inputs_are_given_in_one_way.Goals as goal

pub returns : goal.returns
returns c =
    let study = one_study c.tables_are_read_in_one_way.ensures c.orders_are_read_in_one_way.ensures c.patterns_are_read_in_one_way.ensures in
    let sheet = one_sheet c.sheets_are_read_in_one_way.ensures in
    record {
      study = study;
      sheet = sheet;
      ready = λ h. one_ready h (study h) (sheet h) (one_peak_study c.tables_are_read_in_one_way.ensures h) (one_peaked c.peaked_sheets_are_read_in_one_way.ensures h)
          (one_script c.scripts_are_read_in_one_way.ensures h);
    }
