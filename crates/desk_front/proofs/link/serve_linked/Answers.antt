-- A seat and an editor stay the same, and their conversation is from one list.
use Rattle.desk_front.specs.Service.{Replies}
use Rattle.desk_front.specs.Sitting.{Links, SeatTurn, Sitting, met_by, sitting}
use Rattle.desk_front.specs.contracts.linked.LinkedAnswerer.TheImpl.{ghosts}
use Rattle.desk_front.proofs.Closing.{replied, serves_weaker}
use Rattle.desk_front.proofs.Saying.{conversation_of, kept_throughout}
use Rattle.desk_front.proofs.Sessions.{links}
use Rattle.desk_front.proofs.link.serve_linked.Goals as goal

pub returns-clause-same_editor : goal.returns-clause-same_editor
returns-clause-same_editor g c =
    let R = (ghosts g.row.E g.row.S g.E.Editor g.E.Editor-dict g.S.Seat g.S.Seat-dict).replies in
    let x = replied R c.args.linked.now c.serve-served.new.answerer c.serve-served.result (g.L.Link.unread c.args.link.now) (g.L.Link.unread c.serve-served.new.link)
    (g.L.Link.written c.args.link.now) (g.L.Link.written c.serve-served.new.link) c.serve-served.ensures.served (λ e. (c.serve-served.ensures.nothing e).0)
    in
    kept_throughout R (λ a. a.editor.ghost_name) (λ a b m said turn. turn.0) c.args.linked.now c.serve-served.new.answerer x.0 x.1 x.2

pub returns-clause-same_seat : goal.returns-clause-same_seat
returns-clause-same_seat g c =
    let R = (ghosts g.row.E g.row.S g.E.Editor g.E.Editor-dict g.S.Seat g.S.Seat-dict).replies in
    let x = replied R c.args.linked.now c.serve-served.new.answerer c.serve-served.result (g.L.Link.unread c.args.link.now) (g.L.Link.unread c.serve-served.new.link)
    (g.L.Link.written c.args.link.now) (g.L.Link.written c.serve-served.new.link) c.serve-served.ensures.served (λ e. (c.serve-served.ensures.nothing e).0)
    in
    kept_throughout R (λ a. a.seat.ghost_name) (λ a b m said turn. turn.1) c.args.linked.now c.serve-served.new.answerer x.0 x.1 x.2

pub returns-clause-served : goal.returns-clause-served
returns-clause-served g c other =
    let R = (ghosts g.row.E g.row.S g.E.Editor g.E.Editor-dict g.S.Seat g.S.Seat-dict).replies in
    let old : Sitting = sitting (g.S.Seat.list c.args.linked.now.seat.now) (g.E.Editor.faults c.args.linked.now.editor.now) (g.E.Editor.given c.args.linked.now.editor.now) in
    let new : Sitting = sitting (g.S.Seat.list c.serve-served.new.answerer.seat.now) (g.E.Editor.faults c.serve-served.new.answerer.editor.now) (g.E.Editor.given c.serve-served.new.answerer.editor.now) in
    let x = c.serve-served.ensures.served other in (
      x.0,
      x.1,
      x.2,
      serves_weaker (λ requests said. Replies R c.args.linked.now requests said c.serve-served.new.answerer) (Links g.E.Editor.NeverFails old new) c.serve-served.result x.0
          (g.L.Link.unread c.serve-served.new.link) (g.L.Link.written c.args.link.now) (g.L.Link.written c.serve-served.new.link)
          (λ ms said replies.
          let y = conversation_of R (λ a. sitting (g.S.Seat.list a.seat.now) (g.E.Editor.faults a.editor.now) (g.E.Editor.given a.editor.now)) (SeatTurn g.E.Editor.NeverFails) met_by
          (λ a b m said turn. turn.2) c.args.linked.now c.serve-served.new.answerer ms said replies
          in
          links g.E.Editor.NeverFails old new ms y.0 said y.1 y.2 c.seen.ensures.history)
          x.3,
    )
