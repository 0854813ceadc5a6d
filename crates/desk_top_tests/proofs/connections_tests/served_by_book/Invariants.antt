use Rattle.desk_top_tests.proofs.connections_tests.served_by_book.Given as goal

-- the book that was just opened, and a board of the desk's tables
abbrev pub ghosts-served_by_named : goal.ghosts-served_by_named
ghosts-served_by_named g a = record { book = a.blank; opening = record { engine = a.desk.engine } }
