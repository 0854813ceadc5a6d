use Rattle.desk_top.proofs.serve.serve_desk.Given as goal

-- the book that was just opened and a board of the desk's tables, and whether the desk's keeper tells what it keeps
abbrev pub ghosts-serve_named-J-Naming : goal.ghosts-serve_named-J-Naming
ghosts-serve_named-J-Naming g a = record { book = a.blank; opening = record { engine = a.desk.engine } }

abbrev pub ghosts-serve_named-N-OpenedNaming : goal.ghosts-serve_named-N-OpenedNaming
ghosts-serve_named-N-OpenedNaming g a = record { Told = g.K.Keeper.Tells a.desk.keeper }
