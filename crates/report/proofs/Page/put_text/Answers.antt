-- `put_text` meets its contract: the text is copied to where it is to stand.
use Rattle.std.proofs.Common.{refl, arith, length, ◌+◌, ◌-◌}
use Rattle.std.proofs.Math.Seq.{length-sets}
use Rattle.report.proofs.Pages.{copied}
use Rattle.report.proofs.Page.put_text.Goals as goal

pub returns : goal.returns
returns c =
    let page = c.args.self.now in
    let text = c.args.text.now in
    let is = copied page.out.now text page.at (page.at + length text - page.at) (omega arith) (omega arith) in
    let long = length-sets page.out.now page.at text in
    rw (c.copy_from_slice.ensures.after, is) record { same_slice = refl; long = long; written = record { end_is = refl; after_is = refl } }
