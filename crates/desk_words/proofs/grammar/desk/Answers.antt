use Rattle.std.proofs.lemmas.Result.{IfOk-weaker}
use Rattle.clap.specs.Simple.{App, with_subcommand}
use Rattle.desk_words.specs.App.{bare_app, form_shape}
use Rattle.desk_words.specs.Forms.{Form}
use Rattle.desk_words.specs.Table.{audit_form, check_form, export_form, import_form, sample_form, serve_form, session_form}
use Rattle.desk_words.proofs.Builders.{command_added}
use Rattle.desk_words.proofs.grammar.desk.Goals as goal

abbrev with_form : App → Form → App
with_form app form = with_subcommand app (form_shape form)

pub returns : goal.returns
returns c =
    let one = command_added _ _ _ bare_app check_form c.in_ok-subcommand.ensures c.in_ok-check.ensures.local c.bare_desk.ensures c.in_ok-check.ensures.app in
    let two = command_added _ _ _ (with_form bare_app check_form) session_form c.in_ok-subcommand-2.ensures c.in_ok-session.ensures.local one c.in_ok-session.ensures.app in
    let three = command_added _ _ _ (with_form (with_form bare_app check_form) session_form) serve_form
    c.in_ok-subcommand-3.ensures c.in_ok-serve.ensures.local two c.in_ok-serve.ensures.app in
    let four = command_added _ _ _ (with_form (with_form (with_form bare_app check_form) session_form) serve_form) export_form
    c.in_ok-subcommand-4.ensures c.in_ok-export.ensures.local three c.in_ok-export.ensures.app in
    let five = command_added _ _ _ (with_form (with_form (with_form (with_form bare_app check_form) session_form) serve_form) export_form) import_form
    c.in_ok-subcommand-5.ensures c.in_ok-import.ensures.local four c.in_ok-import.ensures.app in
    let six = command_added _ _ _ (with_form (with_form (with_form (with_form (with_form bare_app check_form) session_form) serve_form) export_form) import_form) audit_form
    c.in_ok-subcommand-6.ensures c.in_ok-audit.ensures.local five c.in_ok-audit.ensures.app in
    IfOk-weaker c.subcommand-7.result _ _ (λ desk h. command_added _ _ desk
    (with_form (with_form (with_form (with_form (with_form (with_form bare_app check_form) session_form) serve_form) export_form) import_form) audit_form) sample_form
    h c.in_ok-sample.ensures.local six c.in_ok-sample.ensures.app) c.subcommand-7.ensures
