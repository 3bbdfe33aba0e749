use Rattle.std.proofs.Common.{◌≡◌, ◌++◌, ◌∙◌, ℕ, List, ap}
use Rattle.std.proofs.lemmas.Result.{IfOk-weaker}
use Rattle.ofit_records.specs.Written.{record_text}
use Rattle.ofit_study.specs.declared.settings.Settings.{Settings}
use Rattle.ofit_report.specs.Blocks.{block_order}
use Rattle.ofit_report.specs.ReportText.{header_fields, size_fields, end_fields, ReportText}
use Rattle.ofit_report.proofs.Listed.{whole_text}
use Rattle.ofit_report.proofs.SameOrder.{count_of}
use Rattle.ofit_report.proofs.report.report_text.Goals as goal

pub returns : goal.returns
returns c =
    let s = c.args.study.now in
    let values = c.args.values.now in
    let components = c.in_ok-components.components in
    let blocks = c.component_count-blocks.result in
    let groups = c.in_ok-report_groups.ensures in
    let parts = c.in_ok-report_blocks.ensures in
    let first : c.write_header.new.writer ≡ record_text (header_fields s.settings) =
    c.in_ok-write_header.ensures ∙ ap (λ (t : List ℕ). t ++ record_text (header_fields c.settings.result.now)) c.in_ok-writer.ensures ∙ ap (λ (x : Settings). record_text (header_fields x)) c.settings.ensures.settings in
    IfOk-weaker c.into_text.result (λ text. text.items ≡ c.add_record.new.self) (λ text. ReportText s values text.items)
    (λ text e. record {
      components = components;
      is_count = c.in_ok-components.ensures;
      blocks = blocks;
      is_block_count = count_of c.in_ok-order.order (block_order s values) c.in_ok-order.ensures blocks c.component_count-blocks.ensures.count;
      group_records = groups.0;
      are_groups = groups.1;
      block_records = parts.0;
      are_blocks = parts.1;
      spells = e ∙ whole_text (header_fields s.settings) (size_fields s components blocks) end_fields groups.0 parts.0 _ _ _ _ _ first c.in_ok-write_size.ensures groups.2 parts.2 c.in_ok-add_record.ensures;
    }) c.into_text.ensures
