-- A connection converses with its clerk, which stays the same.
use Rattle.std.proofs.Common.{◌≤◌, arith, sym}
use Rattle.desk_clerk.specs.Clerk.{keeper_of, current_tables}
use Rattle.desk_model.specs.Lists.{number_at}
use Rattle.desk_front.specs.Service.{Replies}
use Rattle.desk_front.specs.Turn.{Converses, Standing, Turn}
use Rattle.desk_front.specs.contracts.connection.ConnectionAnswerer.TheImpl.{ghosts}
use Rattle.desk_front.proofs.Closing.{replied, serves_weaker}
use Rattle.desk_front.proofs.Saying.{conversation_of, kept_throughout, told_throughout}
use Rattle.desk_front.proofs.Talking.{conversation_faults, converses}
use Rattle.desk_front.proofs.alone.serve_connection.Goals as goal

pub returns-clause-same_clerk : goal.returns-clause-same_clerk
returns-clause-same_clerk g c =
    let R = (ghosts g.row.K g.row.J g.K.Keeper g.K.Keeper-dict g.J.Naming g.J.Naming-dict).replies in
    let x = replied R c.args.connection.now c.serve.new.answerer c.serve.result (g.L.Link.unread c.args.link.now) (g.L.Link.unread c.serve.new.link)
    (g.L.Link.written c.args.link.now) (g.L.Link.written c.serve.new.link) c.serve.ensures.served (λ e. (c.serve.ensures.nothing e).0)
    in
    kept_throughout R (λ a. a.clerk.ghost_name) (λ a b m said turn. turn.0) c.args.connection.now c.serve.new.answerer x.0 x.1 x.2

pub returns-clause-told : goal.returns-clause-told
returns-clause-told g c =
    let R = (ghosts g.row.K g.row.J g.K.Keeper g.K.Keeper-dict g.J.Naming g.J.Naming-dict).replies in
    let x = replied R c.args.connection.now c.serve.new.answerer c.serve.result (g.L.Link.unread c.args.link.now) (g.L.Link.unread c.serve.new.link)
    (g.L.Link.written c.args.link.now) (g.L.Link.written c.serve.new.link) c.serve.ensures.served (λ e. (c.serve.ensures.nothing e).0)
    in
    told_throughout R (λ a. g.K.Keeper.Tells (keeper_of a.clerk.now)) (λ a b m said turn. turn.1) c.args.connection.now c.serve.new.answerer x.0 x.1 x.2

pub returns-clause-keeper_never_falls : goal.returns-clause-keeper_never_falls
returns-clause-keeper_never_falls g c =
    let R = (ghosts g.row.K g.row.J g.K.Keeper g.K.Keeper-dict g.J.Naming g.J.Naming-dict).replies in
    let old : Standing = record { current = current_tables c.args.connection.now.clerk.now; last_seen = c.args.connection.now.last_seen; faults = g.K.Keeper.faults (keeper_of c.args.connection.now.clerk.now) } in
    let new : Standing = record { current = current_tables c.serve.new.answerer.clerk.now; last_seen = c.serve.new.answerer.last_seen; faults = g.K.Keeper.faults (keeper_of c.serve.new.answerer.clerk.now) } in
    let x = replied R c.args.connection.now c.serve.new.answerer c.serve.result (g.L.Link.unread c.args.link.now) (g.L.Link.unread c.serve.new.link)
    (g.L.Link.written c.args.link.now) (g.L.Link.written c.serve.new.link) c.serve.ensures.served (λ e. (c.serve.ensures.nothing e).0)
    in
    let y = conversation_of R (λ a. record { current = current_tables a.clerk.now; last_seen = a.last_seen; faults = g.K.Keeper.faults (keeper_of a.clerk.now) }) Turn (λ standing. standing.last_seen) (λ a b m said turn. turn.2)
    c.args.connection.now c.serve.new.answerer x.0 x.1 x.2
    in
    conversation_faults old new x.0 y.0 y.1

pub returns-clause-served : goal.returns-clause-served
returns-clause-served g c other =
    let R = (ghosts g.row.K g.row.J g.K.Keeper g.K.Keeper-dict g.J.Naming g.J.Naming-dict).replies in
    let old : Standing = record { current = current_tables c.args.connection.now.clerk.now; last_seen = c.args.connection.now.last_seen; faults = g.K.Keeper.faults (keeper_of c.args.connection.now.clerk.now) } in
    let left = current_tables c.serve.new.answerer.clerk.now in
    let counted = g.K.Keeper.faults (keeper_of c.serve.new.answerer.clerk.now) in
    let x = c.serve.ensures.served other in
    let last_seen : old.last_seen ≤ number_at old.current = omega (arith, c.requires.last_seen) in
    rw (sym c.requires.last_seen) (
      x.0,
      x.1,
      x.2,
      serves_weaker (λ requests said. Replies R c.args.connection.now requests said c.serve.new.answerer) (Converses old left counted) c.serve.result x.0
          (g.L.Link.unread c.serve.new.link) (g.L.Link.written c.args.link.now) (g.L.Link.written c.serve.new.link)
          (λ ms said replies.
          let y = conversation_of R (λ a. record { current = current_tables a.clerk.now; last_seen = a.last_seen; faults = g.K.Keeper.faults (keeper_of a.clerk.now) }) Turn (λ standing. standing.last_seen) (λ a b m said turn. turn.2)
          c.args.connection.now c.serve.new.answerer ms said replies
          in
          converses old left c.serve.new.answerer.last_seen counted ms y.0 said c.requires.sound last_seen y.1 y.2)
          x.3,
    )
