use Rattle.combine_cli.proofs.decide.control_of.Goals as goal

pub returns-in-Combine-clause-refused : goal.returns-in-Combine-clause-refused
returns-in-Combine-clause-refused g c = λ tells. rw c.in-Combine.is (c.read_control_file.ensures.refused tells)
