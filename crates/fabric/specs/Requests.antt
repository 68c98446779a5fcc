-- What is asked of a request, by the place that it has in the rules.
use Rattle.std.specs.Prelude.{ℕ, Bool, true, false, Some, None, Option}
use Rattle.rules.specs.Boards.{Place, free, posted, sent, served}
use Rattle.rules.specs.declared.kind.Kind.{Kind}

abbrev pub kind_in : Place → Option Kind
kind_in free = None
kind_in (posted l k w) = Some k
kind_in (sent l k w) = Some k
kind_in (served l k r w) = Some k

abbrev pub line_in : Place → Option ℕ
line_in free = None
line_in (posted l k w) = Some l
line_in (sent l k w) = Some l
line_in (served l k r w) = Some l

abbrev pub waited_in : Place → Option ℕ
waited_in free = None
waited_in (posted l k w) = Some w
waited_in (sent l k w) = Some w
waited_in (served l k r w) = Some w

-- Only a served request has a result, and whatever is served was sent.
abbrev pub result_in : Place → Option ℕ
result_in free = None
result_in (posted l k w) = None
result_in (sent l k w) = None
result_in (served l k r w) = Some r

abbrev pub sent_in : Place → Bool
sent_in free = false
sent_in (posted l k w) = false
sent_in (sent l k w) = true
sent_in (served l k r w) = true

abbrev pub served_in : Place → Bool
served_in free = false
served_in (posted l k w) = false
served_in (sent l k w) = false
served_in (served l k r w) = true
