use Rattle.desk_front_tests.proofs.front.served.Given as goal

-- the book that was just opened, and a board of the desk's tables
abbrev pub ghosts-served_by : goal.ghosts-served_by
ghosts-served_by g a = record { book = a.blank; opening = record { engine = a.desk.engine } }
