-- `split_word` meets its contract. Assumes nothing.
use Rattle.text.proofs.Lists.{split}
use Rattle.text.proofs.split_word.Goals as goal

pub returns : goal.returns
returns c =
    let e = split c.args.sep c.args.text.now _ _ _ _ _ _ _ c.find_word.ensures c.unwrap_or-start.ensures c.split_at.ensures.back c.find_gap.ensures
    c.unwrap_or-end.ensures c.split_at-2.ensures.front c.split_at-2.ensures.back in
    record { word = e.0; rest = e.1 }
