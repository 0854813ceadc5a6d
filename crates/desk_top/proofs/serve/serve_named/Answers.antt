-- A command asks for one to eight seats. Where there is no memory for them, the keeper is given back as it was.
use Rattle.std.proofs.Common.{◌≡◌, refl, inr, ap, ◌∙◌}
use Rattle.desk_clerk.specs.Clerk.{tables_of}
use Rattle.desk_engine.specs.Engine.{lists_of}
use Rattle.desk_top.proofs.Stores.{keeps_of}
use Rattle.desk_top.proofs.serve.serve_named.Goals as goal

pub open-requires-clause-seats : goal.open-requires-clause-seats
open-requires-clause-seats g c = c.requires.bounds.1

pub serve_opened-requires-after_bounds : goal.serve_opened-requires-after_bounds
serve_opened-requires-after_bounds g c κs within = rw c.in-Ok.ensures.count c.requires.bounds.1.0

pub returns-in-Err-clause-served : goal.returns-in-Err-clause-served
returns-in-Err-clause-served g c =
    let opened : tables_of c.from_parts-desk.result ≡ tables_of c.args.desk =
    ap (λ desk. lists_of desk.engine) c.from_parts-desk.ensures ∙ ap lists_of c.into_parts-engine.ensures.parts.0 in
    inr record {
      memory = c.answer_no_memory.ensures.status;
      unasked = refl;
      unread = keeps_of _ _ c.answer_no_memory.ensures.input_stays;
      told = c.answer_no_memory.ensures.answer;
      closed = rw opened at (rw (← c.into_keeper.ensures.same) at c.in-Err.ensures.kept);
    }
