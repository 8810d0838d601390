-- A call line as it is first read: each number above 2,147,483,647 as 2,147,483,648, which is above
-- every limit.
use Rattle.std.specs.Prelude.{ℕ, min, Option, Some, None}
use Rattle.calltext.specs.declared.call.CallLine.{CallLine}
use Rattle.calltext.specs.declared.call.CallLine.TheVariants.{Send, Receive, MatchedProbe, Probe, MatchedReceive, Wait, WaitAll, SendReceive}

-- A number, if there is one, as it is first read.
abbrev pub capped_option : Option ℕ → Option ℕ
capped_option None = None
capped_option (Some n) = Some (min n 2147483648)

-- A call line, as it is first read.
abbrev pub capped_call : CallLine → CallLine
capped_call (Send mode request destination tag communicator) = Send mode request (min destination 2147483648) (min tag 2147483648) (capped_option communicator)
capped_call (Receive request source tag communicator) = Receive request (capped_option source) (capped_option tag) (capped_option communicator)
capped_call (MatchedProbe handle source tag communicator) = MatchedProbe handle (capped_option source) (capped_option tag) (capped_option communicator)
capped_call (Probe source tag communicator) = Probe (capped_option source) (capped_option tag) (capped_option communicator)
capped_call (MatchedReceive request handle) = MatchedReceive request handle
capped_call (Wait request) = Wait request
capped_call (WaitAll requests) = WaitAll requests
capped_call (SendReceive destination send_tag source receive_tag communicator) =
    SendReceive (min destination 2147483648) (min send_tag 2147483648) (capped_option source) (capped_option receive_tag) (capped_option communicator)
