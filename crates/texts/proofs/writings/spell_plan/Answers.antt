-- The capacities, then the messages. Assumes nothing.
use Rattle.lines.proofs.Spellings.{then}
use Rattle.plans.specs.Texts.{plan_text}
use Rattle.texts.proofs.writings.spell_plan.Goals as goal

pub returns : goal.returns
unfolding plan_text
returns c = record { text = then c.spell_capacities-begun.ensures.text c.spell_messages.ensures.text }
