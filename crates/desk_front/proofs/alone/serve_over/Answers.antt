-- What the connection leaves of its clerk is what is left of it.
use Rattle.std.proofs.Common.{rules, ◌≡◌, ◌≤◌, ℕ, List, length, subst}
use Rattle.std.specs.Io.KnownBytes.{Consumes}
use Rattle.desk_clerk.specs.Clerk.{keeper_of, current_tables}
use Rattle.desk_model.specs.Lists.{number_at}
use Rattle.desk_front.specs.Served.{Serves, stream_limit}
use Rattle.desk_front.specs.Turn.{Converses}
use Rattle.desk_front.proofs.alone.serve_over.Goals as goal

moved : {A : Type 0} (P : A → Type 0) (a b : A) → P a → a ≡ b → P b
moved P a b p e = subst P e p

pub returns-clause-served : goal.returns-clause-served
returns-clause-served g c = λ wanting.
    moved (λ left. (x : List ℕ) × Consumes (g.L.Link.unread c.args.link.now) (g.L.Link.unread c.serve_connection.new.link) x × (length x ≤ stream_limit)
    × Serves (Converses (record { current = current_tables c.args.clerk.now; last_seen = number_at (current_tables c.args.clerk.now); faults = g.K.Keeper.faults (keeper_of c.args.clerk.now) }) (current_tables left) (g.K.Keeper.faults (keeper_of left)))
    c.serve_connection.result x (g.L.Link.unread c.serve_connection.new.link) (g.L.Link.written c.args.link.now) (g.L.Link.written c.serve_connection.new.link))
    c.serve_connection.new.connection.clerk.now c.clerk-1.given.0 (c.serve_connection.ensures.served wanting) (search rules)
