-- `cert` meets its contract: a record of an accepted file that is read alone is the certificate of its number.
use Rattle.decision.proofs.FetchLaws.{fetched_same, fetched_refused}
use Rattle.decision.proofs.inquiry.Inquiry.cert.Goals as goal

pub unreachable-requires : goal.unreachable-requires
unreachable-requires c = fetched_refused c.record_alone.ensures c.args.self.now.ready.accepted c.requires c.in-Err.is

pub returns-clause-same : goal.returns-clause-same
returns-clause-same c = fetched_same c.record_alone.ensures c.args.self.now.ready.accepted c.requires c.in-Ok.is
