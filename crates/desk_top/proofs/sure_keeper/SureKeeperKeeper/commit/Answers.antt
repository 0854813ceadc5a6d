use Rattle.std.proofs.Common.{◌∙◌, ap, map, subst}
use Rattle.std.specs.Prelude.{if◌then◌else◌}
use Rattle.desk_edge.specs.Content.{IsChanged}
use Rattle.desk_top.specs.KeptBodies.{cleared, is_key_among, kept_in, stands, with_room}
use Rattle.desk_top.proofs.KeptBodies.{all_changed, clear_when_changed}
use Rattle.desk_top.proofs.sure_keeper.SureKeeperKeeper.commit.Goals as goal

pub invariant_of-self-2 : goal.invariant_of-self-2
invariant_of-self-2 c =
    let keys = c.in_ok-keys.keys.items in
    let old = c.self.inside.bodies.entries in
    clear_when_changed c.args.batch.now c.in_ok-changes.changes.items keys c.in_ok-changes.ensures (c.in_ok-keys.ensures ∙ ap (map (λ new. new.0)) c.as_slice.ensures.value)
    old c.make_room.new.bodies.entries c.put_all.new.bodies.entries c.clear_all-2.new.bodies.entries
    (λ key. c.clear_all-2.ensures key ∙ ap (λ list. if is_key_among list key then cleared (stands c.put_all.new.bodies.entries key) else stands c.put_all.new.bodies.entries key) c.as_slice-3.ensures.value)
    (λ key. c.in_default.ensures.room key ∙ ap (λ list. if is_key_among list key then with_room (stands old key) else stands old key) c.as_slice-2.ensures.value)
    c.put_all.ensures c.self.invariant

pub returns-clause-ok : goal.returns-clause-ok
returns-clause-ok c told =
    let keys = c.in_ok-keys.keys.items in
    let old = c.self.inside.bodies.entries in
    subst (λ before. IsChanged c.args.batch.now (kept_in before) (kept_in c.clear_all-2.new.bodies.entries)) c.self.view_is
    (all_changed c.args.batch.now c.in_ok-changes.changes.items keys c.in_ok-changes.ensures (c.in_ok-keys.ensures ∙ ap (map (λ new. new.0)) c.as_slice.ensures.value)
    old c.make_room.new.bodies.entries c.put_all.new.bodies.entries c.clear_all-2.new.bodies.entries
    (λ key. c.clear_all-2.ensures key ∙ ap (λ list. if is_key_among list key then cleared (stands c.put_all.new.bodies.entries key) else stands c.put_all.new.bodies.entries key) c.as_slice-3.ensures.value)
    (λ key. c.in_default.ensures.room key ∙ ap (λ list. if is_key_among list key then with_room (stands old key) else stands old key) c.as_slice-2.ensures.value)
    c.put_all.ensures)
