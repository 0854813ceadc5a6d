use Rattle.desk_scratch.proofs.answer.answer_plain.Given as goal

-- the ledger that was just opened
abbrev pub ghosts-answer_uncounted : goal.ghosts-answer_uncounted
ghosts-answer_uncounted a = record { name = a.blank.name; parts = a.blank.parts }
