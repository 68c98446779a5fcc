use Rattle.listing.proofs.trace_memory.TraceMemoryLineMemory.write.Goals as goal

pub returns-in-Window-clause-words : goal.returns-in-Window-clause-words
returns-in-Window-clause-words c = rw c.in-Window.is c.write-in-Window.ensures.words
