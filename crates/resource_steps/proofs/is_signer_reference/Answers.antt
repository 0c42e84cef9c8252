-- An immutable reference is as its referent says; any other type is not.
use Rattle.resource_steps.specs.Resources.{signer_by, signer_not}
use Rattle.resource_steps.proofs.is_signer_reference.Goals as goal

pub returns-in_default : goal.returns-in_default
returns-in_default c = signer_not c.referent_of.ensures c.in_default.not-Reference

pub returns : goal.returns
returns c = signer_by c.referent_of.ensures c.in-Reference.is c.is_leaf.ensures
