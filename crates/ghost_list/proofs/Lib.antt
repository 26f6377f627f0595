mod Token
