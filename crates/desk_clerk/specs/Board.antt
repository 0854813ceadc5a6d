-- The board that a name has before a desk is opened under it.
use Rattle.desk_clerk.specs.declared.board.DeskBoard.{DeskBoard}
use Rattle.desk_engine.specs.Stored.{nothing_stored}
use Rattle.desk_model.specs.Start.{start}

-- a board of the start tables, whose lists have no room, and of which nothing is stored. The name of a desk that is opened has its own
-- in this place
pub blank_board : DeskBoard
blank_board = record {
  engine = record {
    desk = record {
      lists = start;
      rooms = record {
        substances = 0;
        members = 0;
        materials = 0;
        parts = 0;
        lines = 0;
        products = 0;
        exemptions = 0;
        candidates = 0;
        shipments = 0;
        tickets = 0;
      };
    };
    stored = nothing_stored;
  };
}
