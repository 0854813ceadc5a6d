use Rattle.desk_top_tests.proofs.connections_tests.is_met.Given as goal

-- the book that was just opened, and a board of the desk's tables
abbrev pub ghosts-is_met_named : goal.ghosts-is_met_named
ghosts-is_met_named g a = record { book = a.blank; opening = record { engine = a.desk.engine } }
