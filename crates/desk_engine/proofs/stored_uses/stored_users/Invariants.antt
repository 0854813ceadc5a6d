use Rattle.desk_engine.proofs.stored_uses.stored_users.Given as goal

-- the ledger that was just opened
abbrev pub ghosts-users_at : goal.ghosts-users_at
ghosts-users_at a = record { name = a.blank.name; parts = a.blank.parts }
