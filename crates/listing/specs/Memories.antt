-- What the memory of a trace means.
use Rattle.std.specs.Prelude.{ℕ, ◌-◌, List, ◌∷◌}
use Rattle.memory.specs.Interface.{Sound}
use Rattle.memory.specs.Flat.{counted, lined, past}
use Rattle.memory.specs.Sound.{flat_sound, window_sound}
use Rattle.memory.specs.Window.{hidden, reach, seen}
use Rattle.trace.specs.declared.word.MemoryKind.{MemoryKind}
use Rattle.trace.specs.declared.word.MemoryKind.TheVariants as kind
use Rattle.listing.specs.declared.trace_memory.TraceMemory.{TraceMemory}
use Rattle.listing.specs.declared.trace_memory.TraceMemory.TheVariants.{Flat, Window}

-- Where the lines begin in the 64 words lent: a window shows the last of them.
abbrev pub start_of : MemoryKind → ℕ → ℕ
start_of kind.Flat lines = 0
start_of kind.Window lines = 64 - lines
start_of kind.Chained lines = 0

abbrev pub memory_size : TraceMemory → ℕ
memory_size (Flat m) = counted m.words.now
memory_size (Window w) = reach (counted w.below.words.now) w.start w.count

abbrev pub memory_words : TraceMemory → ℕ → ℕ
memory_words (Flat m) = lined m.words.now
memory_words (Window w) = seen (lined w.below.words.now) w.start w.count

pub memory_sound : (m : TraceMemory) → Sound (memory_size m) (memory_words m)
memory_sound (Flat m) = flat_sound m.words.now
memory_sound (Window w) = window_sound (counted w.below.words.now) (lined w.below.words.now) w.start w.count (flat_sound w.below.words.now)

abbrev pub memory_around : TraceMemory → List (ℕ → ℕ)
memory_around (Flat m) = past m.words.now
memory_around (Window w) = (λ _. w.start) ∷ (λ _. w.count) ∷ hidden (lined w.below.words.now) w.start w.count ∷ past w.below.words.now

abbrev pub memory_lender : TraceMemory → ℕ
memory_lender (Flat m) = m.words.ghost_name
memory_lender (Window w) = w.below.words.ghost_name
