use Rattle.device.specs.Meanings.{Meaning}
use Rattle.shelf.proofs.Clearing.{audits_draft}
use Rattle.shelf.proofs.publishing.audit_draft.Goals as goal

pub returns-clause-audits : goal.returns-clause-audits
returns-clause-audits g c =
    let m : Meaning = g.D.Device.meaning c.args.d.now in
    rw c.add_place.ensures
    (audits_draft m c.args.draft.now c.file-extent.result c.audit.result c.requires.size c.file-extent.ensures.start c.file-extent.ensures.len c.audit.ensures.verdict)
