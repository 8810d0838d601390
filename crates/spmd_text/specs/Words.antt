-- The words of the language, and how pieces of a text are told apart.
use Rattle.std.specs.Prelude.{ℕ, codes, List, Option, Some, None, if◌then◌else◌}
use Rattle.std.specs.Str.{bytes_eq}
use Rattle.spmd_text.specs.declared.piece.Word.{Word}
use Rattle.spmd_text.specs.declared.piece.Word.TheVariants as word
use Rattle.spmd_text.specs.declared.piece.Piece.{Piece}
use Rattle.spmd_text.specs.declared.piece.Piece.TheVariants as piece

-- ---- the word of the language that is spelled so

unfoldable pub collective_of : List ℕ → Option Word
collective_of w =
    if bytes_eq w (codes "allreduce") then Some word.Allreduce else
    if bytes_eq w (codes "allgather") then Some word.Allgather else
    if bytes_eq w (codes "alltoall") then Some word.Alltoall else
    if bytes_eq w (codes "scan") then Some word.Scan else
    None

unfoldable pub rooted_of : List ℕ → Option Word
rooted_of w =
    if bytes_eq w (codes "bcast") then Some word.Bcast else
    if bytes_eq w (codes "reduce") then Some word.Reduce else
    if bytes_eq w (codes "gather") then Some word.Gather else
    if bytes_eq w (codes "scatter") then Some word.Scatter else
    collective_of w

unfoldable pub wait_of : List ℕ → Option Word
wait_of w =
    if bytes_eq w (codes "wait") then Some word.Wait else
    if bytes_eq w (codes "waitall") then Some word.Waitall else
    if bytes_eq w (codes "sendrecv") then Some word.Sendrecv else
    if bytes_eq w (codes "barrier") then Some word.Barrier else
    rooted_of w

unfoldable pub probe_of : List ℕ → Option Word
probe_of w =
    if bytes_eq w (codes "probe") then Some word.Probe else
    if bytes_eq w (codes "mprobe") then Some word.Mprobe else
    if bytes_eq w (codes "mrecv") then Some word.Mrecv else
    if bytes_eq w (codes "imrecv") then Some word.Imrecv else
    wait_of w

unfoldable pub receive_keyword : List ℕ → Option Word
receive_keyword w =
    if bytes_eq w (codes "issend") then Some word.Issend else
    if bytes_eq w (codes "ibsend") then Some word.Ibsend else
    if bytes_eq w (codes "recv") then Some word.Recv else
    if bytes_eq w (codes "irecv") then Some word.Irecv else
    probe_of w

unfoldable pub send_of : List ℕ → Option Word
send_of w =
    if bytes_eq w (codes "send") then Some word.Send else
    if bytes_eq w (codes "ssend") then Some word.Ssend else
    if bytes_eq w (codes "bsend") then Some word.Bsend else
    if bytes_eq w (codes "isend") then Some word.Isend else
    receive_keyword w

unfoldable pub operator_of : List ℕ → Option Word
operator_of w =
    if bytes_eq w (codes "div") then Some word.Div else
    if bytes_eq w (codes "mod") then Some word.Mod else
    if bytes_eq w (codes "shl") then Some word.Shl else
    if bytes_eq w (codes "shr") then Some word.Shr else
    if bytes_eq w (codes "xor") then Some word.Xor else
    send_of w

unfoldable pub logic_of : List ℕ → Option Word
logic_of w =
    if bytes_eq w (codes "null") then Some word.Null else
    if bytes_eq w (codes "not") then Some word.Not else
    if bytes_eq w (codes "and") then Some word.And else
    if bytes_eq w (codes "or") then Some word.Or else
    operator_of w

unfoldable pub part_keyword : List ℕ → Option Word
part_keyword w =
    if bytes_eq w (codes "error") then Some word.Error else
    if bytes_eq w (codes "comm") then Some word.Comm else
    if bytes_eq w (codes "among") then Some word.Among else
    if bytes_eq w (codes "rank") then Some word.Rank else
    if bytes_eq w (codes "size") then Some word.Size else
    logic_of w

unfoldable pub branch_of : List ℕ → Option Word
branch_of w =
    if bytes_eq w (codes "end") then Some word.End else
    if bytes_eq w (codes "if") then Some word.If else
    if bytes_eq w (codes "then") then Some word.Then else
    if bytes_eq w (codes "elif") then Some word.Elif else
    if bytes_eq w (codes "else") then Some word.Else else
    part_keyword w

unfoldable pub block_keyword : List ℕ → Option Word
block_keyword w =
    if bytes_eq w (codes "param") then Some word.Param else
    if bytes_eq w (codes "let") then Some word.Let else
    if bytes_eq w (codes "for") then Some word.For else
    if bytes_eq w (codes "to") then Some word.To else
    if bytes_eq w (codes "step") then Some word.Step else
    branch_of w

unfoldable pub keyword_of : List ℕ → Option Word
keyword_of w =
    if bytes_eq w (codes "spmd") then Some word.Spmd else
    if bytes_eq w (codes "policy") then Some word.Policy else
    if bytes_eq w (codes "any") then Some word.Any else
    if bytes_eq w (codes "none") then Some word.Never else
    if bytes_eq w (codes "all") then Some word.Always else
    block_keyword w

-- ---- pieces are told apart by a number, but for which name or number they are

abbrev pub word_code : Word → ℕ
word_code word.Spmd = 0
word_code word.Policy = 1
word_code word.Any = 2
word_code word.Never = 3
word_code word.Always = 4
word_code word.Param = 5
word_code word.Let = 6
word_code word.For = 7
word_code word.To = 8
word_code word.Step = 9
word_code word.End = 10
word_code word.If = 11
word_code word.Then = 12
word_code word.Elif = 13
word_code word.Else = 14
word_code word.Error = 15
word_code word.Comm = 16
word_code word.Among = 17
word_code word.Rank = 18
word_code word.Size = 19
word_code word.Null = 20
word_code word.Not = 21
word_code word.And = 22
word_code word.Or = 23
word_code word.Div = 24
word_code word.Mod = 25
word_code word.Shl = 26
word_code word.Shr = 27
word_code word.Xor = 28
word_code word.Send = 29
word_code word.Ssend = 30
word_code word.Bsend = 31
word_code word.Isend = 32
word_code word.Issend = 33
word_code word.Ibsend = 34
word_code word.Recv = 35
word_code word.Irecv = 36
word_code word.Probe = 37
word_code word.Mprobe = 38
word_code word.Mrecv = 39
word_code word.Imrecv = 40
word_code word.Wait = 41
word_code word.Waitall = 42
word_code word.Sendrecv = 43
word_code word.Barrier = 44
word_code word.Bcast = 45
word_code word.Reduce = 46
word_code word.Allreduce = 47
word_code word.Gather = 48
word_code word.Scatter = 49
word_code word.Allgather = 50
word_code word.Alltoall = 51
word_code word.Scan = 52

abbrev pub code : Piece → ℕ
code (piece.Word w) = word_code w
code (piece.Name k) = 100
code (piece.Number n) = 101
code piece.Equals = 102
code piece.Same = 103
code piece.Other = 104
code piece.Below = 105
code piece.UpTo = 106
code piece.Above = 107
code piece.From = 108
code piece.Plus = 109
code piece.Minus = 110
code piece.Star = 111
code piece.Open = 112
code piece.Close = 113
code piece.OpenIndex = 114
code piece.CloseIndex = 115
code piece.Comma = 116
code piece.LineEnd = 117
code piece.TextEnd = 118
