-- `holds_wrong` meets its contract: the entries passed are in range and marked.
use Rattle.std.proofs.Common.{◌≡◌, length, replicate, sym, ◌∙◌, arith}
use Rattle.permutations.proofs.Marked.{clean_none, clean_more, clean_whole, shown_wrong}
use Rattle.permutations.proofs.Pass.holds_wrong.Goals as goal

pub loop-v-init : goal.loop-v-init
loop-v-init c =
    let cleared : c.fill.new.self ≡ replicate (length c.args.marks.now) 0 = c.fill.ensures.after (λ y e. e) in
    rw cleared (clean_none _ _ _ _)

pub returns-then-shows_wrong : goal.returns-then-shows_wrong
returns-then-shows_wrong c =
    shown_wrong c.args.self.l c.args.self.low c.args.self.high c.args.permutation.now c.loop-v.v-index (omega arith) c.loop-v.marks (omega arith) c.loop-v.invariant (sym c.shows_wrong.ensures.found ∙ c.if-shows_wrong.true)

pub loop-v-preserved : goal.loop-v-preserved
loop-v-preserved c =
    let more = clean_more c.args.self.l c.args.self.low c.args.self.high c.args.permutation.now c.loop-v.v-index (omega arith) c.loop-v.marks (omega arith) c.loop-v.invariant (sym c.shows_wrong.ensures.found ∙ c.if-shows_wrong.false) in
    rw (c.shows_wrong.ensures.marks c.if-shows_wrong.false) more

pub returns : goal.returns
returns c =
    let i : c.loop-v.v-index ≡ length c.args.permutation.now = omega arith in
    clean_whole _ _ _ c.args.permutation.now _ (rw i at c.loop-v.invariant)
