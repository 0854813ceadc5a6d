use Rattle.desk_top_tests.proofs.connections_tests.serve_from_two.Given as goal

-- the book that was just opened, and a board of the desk's tables
abbrev pub ghosts-serve_named : goal.ghosts-serve_named
ghosts-serve_named g a = record { book = a.blank; opening = record { engine = a.desk.engine } }
