-- `varint::put` meets its contract: the tests that led to each store pick the tag. Assumes nothing.
use borrow.Author.Rules.{rules}
use Rattle.varint.proofs.Bytes.{one_byte, tag_0, tag_1, tag_2, tag_3, stored_form}
use Rattle.varint.proofs.put.Goals as goal

pub returns-then-x : goal.returns-then-x
returns-then-x c = stored_form c.args.x 0 (tag_0 _ c.if-x.true) _ _ _ _ c.requires.0 (one_byte c.args.x c.if-x.true) c.store.ensures

pub returns-then-x-2 : goal.returns-then-x-2
returns-then-x-2 c = stored_form c.args.x 1 (tag_1 _ c.if-x.false c.if-x-2.true) _ _ _ _ c.requires.0 (search rules) c.store-then-x-2.ensures

pub returns-then-x-3 : goal.returns-then-x-3
returns-then-x-3 c = stored_form c.args.x 2 (tag_2 _ c.if-x-2.false c.if-x-3.true) _ _ _ _ c.requires.0 (search rules) c.store-then-x-3.ensures

pub returns-else-x-3 : goal.returns-else-x-3
returns-else-x-3 c = stored_form c.args.x 3 (tag_3 _ c.if-x-3.false) _ _ _ _ c.requires.0 (search rules) c.store-else-x-3.ensures
