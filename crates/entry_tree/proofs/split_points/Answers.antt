-- `split_points` meets its contract: what the tree's call says, in room for any run's nodes, and of the nodes nothing.
use Rattle.std.proofs.Common.{◌≡◌, length, sym, ◌∙◌, Result}
use Rattle.std.proofs.lemmas.List.{length-replicate}
use Rattle.scope.specs.Asked.{Matrix, Settings}
use Rattle.control.specs.declared.refusal.Refusal.{Refusal}
use Rattle.entry_tree.specs.Answers.{node_room}
use Rattle.entry_tree.specs.Left.{Slices, record_slices, TreeLeft, PointsLeft}
use Rattle.entry_tree.specs.declared.Grown.{Grown}
use Rattle.entry_tree.proofs.Room.{room_is}
use Rattle.entry_tree.proofs.split_points.Goals as goal

told : (x : Matrix) (s : Settings) (r : Result Grown Refusal) (before after : Slices) → length before.nodes ≡ node_room → TreeLeft x s r before after
    → PointsLeft x s r (record_slices before) (record_slices after) before.cuts after.cuts
told x s r before after len said =
    let a = rw len at said.answer in
    record { answer = a; held = rw len at said.held; cuts = rw len at said.cuts; demand = said.demand }

pub returns : goal.returns
returns c = told _ _ _ _ _ (length-replicate 8191 c.without_choice-nodes.result ∙ sym room_is) c.binary_segmentation.ensures
