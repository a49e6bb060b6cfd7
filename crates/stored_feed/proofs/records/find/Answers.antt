use Rattle.std.proofs.Common.{rules}
use Rattle.std.proofs.lemmas.Iterator.{first_from_Range}
use borrow.Author.Tests.{tests}
use Rattle.stored_feed.proofs.Searched.{Hit, Miss, searched}
use Rattle.stored_feed.proofs.records.find.Goals as goal

pub returns : goal.returns
returns c =
    let chunks = c.as_chunks.result.0.now in
    searched c.args.file.now chunks c.args.stream c.args.from c.find.result c.as_chunks.ensures.front c.as_chunks.ensures.front_len
    (first_from_Range _ _ _ _ (Hit c.args.file.now chunks c.args.stream c.args.from) (Miss c.args.file.now chunks c.args.stream c.args.from) c.find.ensures.ran
    (λ x q k. search (rules, tests))
    (λ x q k. search (rules, tests)))
