use Rattle.language.specs.Reading.{tables_of}
use Rattle.language.proofs.Sound.{nodes_added}
use Rattle.language.proofs.tables.Program.add_node.Goals as goal

pub invariant_of-self-clause-nodes_sound : goal.invariant_of-self-clause-nodes_sound
invariant_of-self-clause-nodes_sound c = nodes_added (tables_of c.args.self.now) c.args.node c.args.self.now.nodes_sound c.requires.fits c.push_entry.ensures.items
