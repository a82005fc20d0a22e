-- `fetch_in` meets its contract: what is fetched by the file's own view is what the whole file says.
use Rattle.wac.proofs.ViewLaws.{view_fetches}
use Rattle.wac.proofs.view.fetch_in.Goals as goal

pub returns : goal.returns
returns c = view_fetches c.args.file c.of.result c.of.ensures c.args.n c.fetch.result c.fetch.ensures
