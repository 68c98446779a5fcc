use Rattle.std.proofs.Common.{◌≡◌, ◌++◌, string_bytes, sym, ap, ◌∙◌, rules}
use Rattle.listing.specs.Listing.{listing}
use Rattle.listing.proofs.Stays.{stays}
use Rattle.listing.proofs.whole.list_trace.Goals as goal

pub returns-in_default : goal.returns-in_default
returns-in_default c =
    let text : string_bytes c.read.new.out ≡ listing c.args.trace.now = search rules in
    record { text = text; law = stays c.args.trace.now (string_bytes c.read.new.out) text }

pub returns : goal.returns
returns c =
    let trace = c.args.trace.now in
    let begins = rw c.in-Some.is at c.in_ok-setup.ensures in
    let rest = c.in_ok-list_setup.ensures begins.1 ∙ ap (λ x. string_bytes c.read.new.out ++ x) (sym begins.2) in
    let text = rest ∙ ap (λ t. t ++ listing trace) (begins.0 ∙ c.new-text.ensures.bytes) in
    record { text = text; law = stays trace (string_bytes c.list_setup.new.out) text }
