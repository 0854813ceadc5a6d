use Rattle.desk_publish_tests.proofs.main.Given as goal

-- the book that was just opened, and a board with no entry

abbrev pub ghosts-measure : goal.ghosts-measure
ghosts-measure g a = record { book = a.blank; opening = record { count = 0; refusals = 0 } }

abbrev pub ghosts-race : goal.ghosts-race
ghosts-race g a = record { book = a.blank; opening = record { count = 0; refusals = 0 } }

abbrev pub ghosts-share : goal.ghosts-share
ghosts-share g a = record { book = a.blank; opening = record { count = 0; refusals = 0 } }

abbrev pub ghosts-refusals : goal.ghosts-refusals
ghosts-refusals g a = record { book = a.blank; opening = record { count = 0; refusals = 0 } }

abbrev pub ghosts-end : goal.ghosts-end
ghosts-end g a = record { book = a.blank; opening = record { count = 0; refusals = 0 } }
