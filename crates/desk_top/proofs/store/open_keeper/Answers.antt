-- A keeper that isn't opened as a desk is handed back, and the line that was written tells why.
use Rattle.desk_top.specs.Answer.{answer_of_opening}
use Rattle.desk_top.proofs.Stores.{cause_of, keeps_of, rose_from_none, unbegun}
use Rattle.desk_top.proofs.store.open_keeper.Goals as goal

pub returns-in-Err-clause-unopened : goal.returns-in-Err-clause-unopened
returns-in-Err-clause-unopened g c =
    unbegun _ _ _ _ _ (answer_of_opening c.in-Err.refused.fault) _
    (cause_of _ _ _ c.in-Err.refused.fault (λ failed. rose_from_none _ _ c.requires (c.in-Err.ensures.faults.rises failed))
    c.in-Err.ensures.damaged c.in-Err.ensures.not_sound)
    c.answer_unopened.ensures.status c.answer_unopened.ensures.answer (keeps_of _ _ c.answer_unopened.ensures.input_stays)
    (λ tells. (c.in-Err.ensures.handed_back tells).1)
