-- Nodes in lent memory: the code's struct beside the definitions' node. Assumes nothing.
use Rattle.std.specs.Prelude.{Bool, true, false, ℕ}
use Rattle.std.proofs.Math.Option.{Option, none, some}
use Rattle.scope.specs.Floats.{+0}
use Rattle.scope.specs.Origin.{direct, kind_of, number_of}
use Rattle.scope.specs.Grid.{Record}
use Rattle.scope.specs.Tree.{Node}
use Rattle.node.specs.declared.Choice.{Choice}
use Rattle.node.specs.declared.Node.{Node as NodeStruct}

-- whether there is a choice, and its record: in numbers all zero where there is none
abbrev pub has_choice : Option Record → Bool
has_choice none = false
has_choice (some r) = true

abbrev pub choice_record : Option Record → Record
choice_record none = record { start = 0; stop = 0; split = 0; gain = +0; origin = direct }
choice_record (some r) = r

-- a record in plain numbers
abbrev pub in_numbers : Record → Choice
in_numbers r = record {
  start = record { 0 = r.start };
  stop = record { 0 = r.stop };
  best_split = record { 0 = r.split };
  max_gain = r.gain;
  kind = kind_of r.origin;
  number = number_of r.origin;
}

-- the struct that stands for a node
abbrev pub to_node : Node → NodeStruct
to_node d = record {
  start = record { 0 = d.start };
  stop = record { 0 = d.stop };
  significant = d.significant;
  has_choice = has_choice d.choice;
  choice = in_numbers (choice_record d.choice);
  left = d.left;
  right = d.right;
}

-- a leaf's node, and that of a segment that is cut
abbrev pub leaf_of : ℕ → ℕ → Option Record → Node
leaf_of start stop o = record { start = start; stop = stop; significant = false; choice = o; left = 0; right = 0 }

abbrev pub cut_of : ℕ → ℕ → Record → ℕ → ℕ → Node
cut_of start stop c left right = record { start = start; stop = stop; significant = true; choice = some c; left = left; right = right }
