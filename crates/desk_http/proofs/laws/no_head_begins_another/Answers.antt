use Rattle.std.proofs.Common.{[], sym, ◌∙◌}
use Rattle.std.proofs.lemmas.List.{append-nil}
use Rattle.httparse.specs.Grammar.{print_request}
use Rattle.httparse.proofs.GrammarLemmas.{request_prefix_free}
use Rattle.desk_http.proofs.laws.no_head_begins_another.Goals as goal

pub returns : goal.returns
returns c h k more valid other longer =
    request_prefix_free (print_request h) more h k [] []
    (valid, sym (append-nil (print_request h))) (other, sym longer ∙ sym (append-nil (print_request k)))
