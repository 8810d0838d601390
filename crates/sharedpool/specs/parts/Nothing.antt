-- Names that no program uses.
use Rattle.std.specs.Prelude.{[], None}
use Rattle.atomic_table.specs.Seated.{TableId}
use Rattle.calltext.specs.declared.call.Policy.TheVariants.{Any}
use Rattle.pool.specs.declared.entry.LoggedCall.{LoggedCall}
use Rattle.pool.specs.declared.entry.Operation.TheVariants.{Leave}
use Rattle.pool.specs.States.{PoolState}

-- the name of no cell
abbrev pub no_table : TableId
no_table = record { words = 0; slots = 0; views_name = 0; atom = 0; block = 0; offset = 0; slot_names = [] }

-- a pool that knows no program
abbrev pub no_pool : PoolState
no_pool = record {
  program = record { policy = Any; ranks = 0; calls = [] };
  formula = record { variables = 0; clauses = [] };
  tree = record { variables = 0; nodes = [] };
  closed = [];
  log = [];
  schedule = None;
  reasons = [];
}

-- the item of no call
abbrev pub no_item : LoggedCall
no_item = record { entry = record { worker = 0; operation = Leave None }; lines = []; steps = [] }
