use Rattle.std.proofs.Common.{◌≤◌, length, drop, string_bytes, ◌∙◌}
use Rattle.trace.specs.Pieces.{pieces}
use Rattle.listing.specs.Beginnings.{stand_from}
use Rattle.listing.specs.Bus.{bus_count, bus_owners, bus_span}
use Rattle.listing.specs.Listing.{begun, listed}
use Rattle.listing.specs.Memories.{memory_size, memory_words, start_of}
use Rattle.listing.proofs.Zeros.{added_from, begun_zeros, listed_from}
use Rattle.listing.proofs.whole.list_setup.Goals as goal

pub returns : goal.returns
returns c =
    let s = c.args.setup.now in
    let trace = c.args.trace.now in
    let out = string_bytes c.args.out.now in
    let out' = string_bytes c.finish.new.out in
    let rest = pieces 10 (drop s.used trace) in
    let bus = c.schedule.result in
    let memory = c.memory.result in
    let stand = stand_from (memory_words memory) (memory_size memory) (bus_owners bus) (bus_count bus) (bus_span bus) in
    let zeros = begun_zeros s.lines (start_of s.kind s.lines) (memory_words memory) (memory_size memory) (bus_owners bus) (bus_count bus) (bus_span bus) c.memory.ensures.words c.memory.ensures.size in
    let stands = zeros ∙ (λ i. begun s.lines (bus_count (c.schedule.ensures i)) (bus_span (c.schedule.ensures i)) (bus_owners (c.schedule.ensures i))) in
    listed_from c.finish.result (length trace ≤ 32768) out out' s.line rest stands (added_from c.finish.result (length trace ≤ 32768) out out' _ (listed s.line stand rest) c.new-replay.ensures.lists c.finish.ensures.text)
