use Rattle.desk_top.proofs.session.serve_desk.Given as goal

-- the book that was just opened, and a board of the desk's tables
abbrev pub ghosts-serve_named : goal.ghosts-serve_named
ghosts-serve_named g a = record { book = a.blank; opening = record { engine = a.desk.engine } }
