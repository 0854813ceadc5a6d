use Rattle.desk_engine.proofs.engine.Engine.answer_uncounted.Given as goal

-- the ledger that was just opened
abbrev pub ghosts-answer_from : goal.ghosts-answer_from
ghosts-answer_from a = record { name = a.blank.name; parts = a.blank.parts }
